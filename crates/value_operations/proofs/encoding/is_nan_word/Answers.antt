use mathlib.Core.Path.{sym}
use lib.Ieee.{binary64}
use lib.Ieee.Bits.{nan_bits_above}
use Rattle.value_operations.proofs.encoding.is_nan_word.Goals as goal

pub returns : goal.returns
returns c = sym (nan_bits_above binary64 _)
