use mathlib.Core.Path.{refl, ◌∙◌}
use Rattle.std.proofs.Common.{ℕ, rules}
use native.Mathlib.Nat.{sub-zero}
use Rattle.std.proofs.lemmas.Iterator.{YieldsList-from_range}
use Rattle.std.proofs.lemmas.Iterator.Search.{any_from_yields_List}
use Rattle.store.specs.Release.{property_names}
use Rattle.store.specs.Words.{property_in, store_of}
use Rattle.store.proofs.WordLaws.{property-length}
use Rattle.store_read.proofs.NameLaws.{properties-any}
use Rattle.store_read.proofs.StoreWords.properties_name.Goals as goal

pub returns : goal.returns
unfolding store_of
returns c =
    any_from_yields_List (λ (i : ℕ). property_names (property_in c.args.self.words.now i) c.args.o) _ _ _ c.any.ensures.ran (YieldsList-from_range 0 _ c.property_count.result refl (sub-zero _)) (λ x b q k. search rules)
    ∙ rw (c.property_count.ensures.0 ∙ property-length _) (properties-any _ _ 0 _)
