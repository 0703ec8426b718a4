use denote.Floats.{passes}
use mathlib.Core.Path.{sym, ◌∙◌}
use Rattle.value.proofs.Numbers.{left-nan, right-nan, same_bits}
use Rattle.value_operations.proofs.FloatWords.{differs}
use Rattle.value_operations.proofs.equality.same_number.Goals as goal

pub returns-then-is_nan : goal.returns-then-is_nan
returns-then-is_nan c = c.is_nan-then-is_nan.ensures.value ∙ differs _ ∙ left-nan _ _ (sym (differs _) ∙ sym c.is_nan.ensures.value ∙ c.if-is_nan.true)

pub returns-then-not-is_nan : goal.returns-then-not-is_nan
returns-then-not-is_nan c = same_bits _ _ (passes _ c.well_formed.0.1) (passes _ c.well_formed.1.0.1)

pub returns-else-not-is_nan : goal.returns-else-not-is_nan
returns-else-not-is_nan c =
    rw c.if-not-is_nan.false
    (right-nan _ _ (sym (differs _) ∙ sym c.is_nan.ensures.value ∙ c.if-is_nan.false) (sym (differs _) ∙ sym c.is_nan-2.ensures.value ∙ c.if-not-is_nan.false))
