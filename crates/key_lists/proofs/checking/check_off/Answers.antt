use mathlib.Core.Path.{sym, ◌∙◌}
use Rattle.key_lists.proofs.CheckLaws.{check-hit, check-miss, check-marked}
use Rattle.key_lists.proofs.checking.check_off.Goals as goal

pub returns-then-word-eq-CHECKED : goal.returns-then-word-eq-CHECKED
returns-then-word-eq-CHECKED c = check-marked _ _ c.if-word-eq-CHECKED.true

pub returns-in-Some : goal.returns-in-Some
returns-in-Some c = check-hit _ c.if-word-eq-CHECKED.false _ _ (sym c.find_word.ensures ∙ c.in-Some.is)

pub returns-in-None : goal.returns-in-None
returns-in-None c = check-miss _ c.if-word-eq-CHECKED.false _ (sym c.find_word.ensures ∙ c.in-None.is)
