use borrow.Author.Tests.{eq-eqb, ne_eqb}
use Rattle.text.specs.Table.{is_table}
use Rattle.text.proofs.is_table.Goals as goal

pub returns-then-cells-eq-TABLE_SIZE : goal.returns-then-cells-eq-TABLE_SIZE
unfolding is_table
returns-then-cells-eq-TABLE_SIZE c = rw (eq-eqb _ _ c.if-cells-eq-TABLE_SIZE.true)

pub returns-else-cells-eq-TABLE_SIZE : goal.returns-else-cells-eq-TABLE_SIZE
unfolding is_table
returns-else-cells-eq-TABLE_SIZE c = rw (ne_eqb _ _ c.if-cells-eq-TABLE_SIZE.false)
