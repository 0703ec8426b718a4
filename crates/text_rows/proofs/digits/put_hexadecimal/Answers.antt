use native.Mathlib.Omega.{arith}
use mathlib.Core.Path.{sym, ◌∙◌}
use Rattle.text_rows.proofs.DigitLaws.{two_digits, no-digits}
use Rattle.text_rows.proofs.digits.put_hexadecimal.Goals as goal

pub loop-b-preserved : goal.loop-b-preserved
loop-b-preserved c = (omega arith, rw (c.digit_for.ensures, c.digit_for-in-loop-b.ensures) (c.loop-b.invariant.1 ∙ two_digits _ _ _ _ c.loop-b-test.true))

pub returns : goal.returns
returns c = (sym (c.loop-b.invariant.1 ∙ no-digits _ _ _ _ c.loop-b-test.false), omega arith)
