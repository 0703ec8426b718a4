use Rattle.text_cells.proofs.CellLaws.{Passed}
use Rattle.text_cells.proofs.cells.cells_of.Given as goal

abbrev pub invariant-loop-i : goal.invariant-loop-i
invariant-loop-i l = Passed l.line l.starts l.at l.i
