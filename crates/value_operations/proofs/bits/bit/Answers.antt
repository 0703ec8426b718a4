use Rattle.value.proofs.BitLaws.{bit-beyond}
use borrow.Author.Tests.{le-ltb}
use Rattle.value_operations.proofs.bits.bit.Goals as goal

pub returns-else-i-lt64 : goal.returns-else-i-lt64
returns-else-i-lt64 c = rw (le-ltb _ _ c.if-i-lt64.false, bit-beyond c.args.word c.args.i c.well_formed.0.1 c.if-i-lt64.false)
