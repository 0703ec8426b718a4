use borrow.Author.Tests.{le-leb, lt-leb}
use lib.ListN.{get_or}
use mathlib.Core.Path.{◌∙◌}
use native.Mathlib.Omega.{arith}
use Rattle.text.proofs.IndexLaws.{more, digit, below, above, next-digit, no_digit, at-end}
use Rattle.text.proofs.indices.decimal_index.Goals as goal

pub returns-in_default : goal.returns-in_default
returns-in_default c = rw (c.loop-c.invariant.1, no_digit c.loop-c.n c.args.units.now c.loop-c.c-index c.loop-c-test.true (below (get_or c.args.units.now c.loop-c.c-index 0) (omega arith)))

pub returns-in_default-2 : goal.returns-in_default-2
returns-in_default-2 c = rw (c.loop-c.invariant.1, no_digit c.loop-c.n c.args.units.now c.loop-c.c-index c.loop-c-test.true (above (get_or c.args.units.now c.loop-c.c-index 0) (omega arith)))

pub loop-c-preserved : goal.loop-c-preserved
loop-c-preserved c = (more c.loop-c.n c.from.result c.loop-c.c-index c.loop-c.invariant.0 (omega arith), rw c.from.ensures (c.loop-c.invariant.1 ∙ next-digit c.loop-c.n c.args.units.now c.loop-c.c-index c.loop-c-test.true (digit (get_or c.args.units.now c.loop-c.c-index 0) (omega arith) (omega arith))))

pub returns-then-n-le4294967294 : goal.returns-then-n-le4294967294
returns-then-n-le4294967294 c = rw (c.loop-c.invariant.1, at-end c.loop-c.n c.args.units.now c.loop-c.c-index c.loop-c-test.false, le-leb _ _ c.if-n-le4294967294.true)

pub returns-else-n-le4294967294 : goal.returns-else-n-le4294967294
returns-else-n-le4294967294 c = rw (c.loop-c.invariant.1, at-end c.loop-c.n c.args.units.now c.loop-c.c-index c.loop-c-test.false, lt-leb _ _ c.if-n-le4294967294.false)
