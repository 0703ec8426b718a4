use native.Mathlib.Omega.{arith}
use mathlib.Core.Path.{sym, ◌∙◌}
use Rattle.text_cells.proofs.HexadecimalLaws.{no-high, no-low, next-byte, bytes-end}
use Rattle.text_cells.proofs.hexadecimal.put_bytes.Goals as goal

pub returns-in_default : goal.returns-in_default
returns-in_default c = sym (c.loop-i.invariant ∙ rw (no-high c.args.digits.now c.loop-i.i (omega arith) c.in_default.ensures))

pub returns-in_default-digit_of : goal.returns-in_default-digit_of
returns-in_default-digit_of c = sym
    (c.loop-i.invariant ∙ rw (no-low c.args.digits.now c.loop-i.i (omega arith) c.in-Some.ensures.0 c.in_default-digit_of.ensures))

pub loop-i-preserved : goal.loop-i-preserved
loop-i-preserved c = c.loop-i.invariant
    ∙ next-byte c.args.digits.now c.loop-i.i (omega arith) c.loop-i.bytes (omega arith) c.in-Some.ensures.0 c.in-Some-digit_of.ensures.0

pub returns : goal.returns
returns c = sym (c.loop-i.invariant ∙ bytes-end c.args.digits.now c.loop-i.bytes c.loop-i.i (omega arith) (omega arith))
