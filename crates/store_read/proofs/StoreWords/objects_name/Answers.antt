use mathlib.Core.Path.{refl, ◌∙◌}
use Rattle.std.proofs.Common.{ℕ, rules}
use Rattle.std.proofs.lemmas.Iterator.{YieldsList-from_range}
use Rattle.std.proofs.lemmas.Iterator.Search.{any_from_yields_List}
use Rattle.store.specs.Release.{object_names}
use Rattle.store.specs.Words.{slot_in, store_of}
use Rattle.store_read.proofs.NameLaws.{objects-any}
use Rattle.store_read.proofs.StoreWords.objects_name.Goals as goal

pub returns : goal.returns
unfolding store_of
returns c =
    any_from_yields_List (λ (i : ℕ). object_names (slot_in c.args.self.words.now i) c.args.o) _ _ _ c.any.ensures.ran (YieldsList-from_range 0 32 32 refl refl) (λ x b q k. search rules)
    ∙ objects-any _ _ 0 32
