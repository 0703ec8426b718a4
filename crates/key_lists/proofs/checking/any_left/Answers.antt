use Rattle.std.proofs.Common.{ℕ, eqb, rules, ◌∙◌}
use mathlib.Core.Bool.{not}
use Rattle.std.proofs.lemmas.Iterator.{YieldsList-from_slice}
use Rattle.std.proofs.lemmas.Iterator.Search.{any_from_yields_List}
use Rattle.key_lists.specs.Unchecked.{checked_mark}
use Rattle.key_lists.proofs.CheckLaws.{any-left}
use Rattle.key_lists.proofs.checking.any_left.Goals as goal

pub returns : goal.returns
returns c =
    any_from_yields_List (λ (w : ℕ). not (eqb w checked_mark)) _ _ c.any.result c.any.ensures.ran (YieldsList-from_slice c.args.list.now c.iter.ensures.rest) (λ x b q k. search rules)
    ∙ any-left c.args.list.now
