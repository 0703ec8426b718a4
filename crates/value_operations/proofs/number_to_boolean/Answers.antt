use mathlib.Core.Path.{sym, ◌∙◌}
use Rattle.value.proofs.Truth.{nan-untrue, number-true}
use Rattle.value_operations.proofs.FloatWords.{differs}
use Rattle.value_operations.proofs.number_to_boolean.Goals as goal

pub returns-then-not-is_nan : goal.returns-then-not-is_nan
returns-then-not-is_nan c = number-true _ (sym (differs _) ∙ sym c.is_nan.ensures.value ∙ c.if-not-is_nan.true)

pub returns-else-not-is_nan : goal.returns-else-not-is_nan
returns-else-not-is_nan c = rw c.if-not-is_nan.false (nan-untrue _ (sym (differs _) ∙ sym c.is_nan.ensures.value ∙ c.if-not-is_nan.false))
