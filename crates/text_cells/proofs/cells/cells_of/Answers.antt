use native.Mathlib.Omega.{arith}
use mathlib.Core.Path.{refl}
use Rattle.text_cells.proofs.CellLaws.{passed_none, passed-one, passed-few, passed-seven}
use Rattle.text_cells.proofs.cells.cells_of.Goals as goal

pub loop-i-init : goal.loop-i-init
loop-i-init c = passed_none _

pub returns-then-line-at : goal.returns-then-line-at
returns-then-line-at c = passed-few _ _ _ _ c.loop-i.invariant c.loop-i-test.true c.if-line-at.true

pub loop-i-preserved : goal.loop-i-preserved
loop-i-preserved c = passed-one _ _ _ _ c.loop-i.invariant c.if-line-at.false _ c.next_separator-at.ensures.0 c.loop-i-test.true c.next_separator-at.ensures.1

pub returns : goal.returns
returns c = rw c.then_some.ensures (passed-seven _ _ _ _ c.loop-i.invariant (omega arith) _ refl)
