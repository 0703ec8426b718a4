use mathlib.Core.Path.{refl, sym, ◌∙◌}
use denote.Floats.{passes}
use Rattle.value_operations.proofs.FloatWords.{nan-word, word_back}
use Rattle.value_operations.proofs.encoding.float_word.Goals as goal

pub returns-then-is_nan : goal.returns-then-is_nan
returns-then-is_nan c = word_back _ _ (passes _ c.well_formed.0.1) (nan-word _ (sym c.is_nan.ensures.value ∙ c.if-is_nan.true))

pub returns-else-is_nan : goal.returns-else-is_nan
returns-else-is_nan c = word_back _ _ (passes _ c.well_formed.0.1) refl
