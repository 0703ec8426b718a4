use mathlib.Core.Path.{sym}
use borrow.Author.Tests.{eq-eqb, ne_eqb}
use Rattle.text.specs.Answers.{emptied}
use Rattle.text.proofs.TableLaws.{no-strings, empty-table, untrue}
use Rattle.text.proofs.make_empty.Goals as goal

pub returns-then-cells-eq-TABLE_SIZE : goal.returns-then-cells-eq-TABLE_SIZE
unfolding emptied
returns-then-cells-eq-TABLE_SIZE c = record { answer = sym (eq-eqb _ _ c.if-cells-eq-TABLE_SIZE.true); after = rw (eq-eqb _ _ c.if-cells-eq-TABLE_SIZE.true); empty = (λ e. no-strings c.args.cells.now c.if-cells-eq-TABLE_SIZE.true); table = (λ e. empty-table c.args.cells.now c.if-cells-eq-TABLE_SIZE.true) }

pub returns-else-cells-eq-TABLE_SIZE : goal.returns-else-cells-eq-TABLE_SIZE
unfolding emptied
returns-else-cells-eq-TABLE_SIZE c = record { answer = sym (ne_eqb _ _ c.if-cells-eq-TABLE_SIZE.false); after = rw (ne_eqb _ _ c.if-cells-eq-TABLE_SIZE.false); empty = (λ e. absurd (untrue e)); table = (λ e. absurd (untrue e)) }
