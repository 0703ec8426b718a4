use mathlib.Core.Path.{sym, ◌∙◌}
use Rattle.value_operations.proofs.FloatWords.{no_nan, nan-of}
use Rattle.value_operations.proofs.encoding.float_of.Goals as goal

pub float_from_bits-result : goal.float_from_bits-result
float_from_bits-result c = no_nan _ (sym c.is_nan_word.ensures ∙ c.if-is_nan_word.false)

pub returns-then-is_nan_word : goal.returns-then-is_nan_word
returns-then-is_nan_word c = nan-of _ (sym c.is_nan_word.ensures ∙ c.if-is_nan_word.true)
