use native.Mathlib.Omega.{arith}
use mathlib.Core.Path.{refl}
use Rattle.text_line.proofs.LineLaws.{as_call, cell-short, no_cells, no_record, entry-call, step_call}
use borrow.Author.Rules.{rules}
use Rattle.text_line.proofs.Memory.perform_line.Goals as goal

pub returns-in_default : goal.returns-in_default
returns-in_default c = as_call (no_cells _ _ c.requires.1 c.in_default.ensures) c.refuse.ensures.done

pub put_record-requires : goal.put_record-requires
put_record-requires c = (c.in-Some.ensures.1, (c.requires.0, refl))

pub cell_in-cell-requires : goal.cell_in-cell-requires
cell_in-cell-requires c = (c.in-Some.ensures.1, c.requires.0.below 6 (omega arith))

pub entry_line-requires : goal.entry_line-requires
entry_line-requires c = (search rules, omega (arith, cell-short _ _ _ c.in-Some.ensures.1 (c.requires.0.below 6 (omega arith)) c.cell_in-cell.ensures))

pub returns-then-bytes-eq15 : goal.returns-then-bytes-eq15
returns-then-bytes-eq15 c = as_call (entry-call _ _ c.requires.1 c.in-Some.ensures.0 _ _ c.put_record.ensures c.if-put_record.true _ c.cell_in-cell.ensures c.if-bytes-eq15.true) c.entry_line.ensures

pub step_line-requires : goal.step_line-requires
step_line-requires c = omega (arith, cell-short _ _ _ c.in-Some.ensures.1 (c.requires.0.below 6 (omega arith)) c.cell_in-cell.ensures)

pub returns-then-put_record : goal.returns-then-put_record
returns-then-put_record c = as_call (step_call _ _ c.requires.1 c.in-Some.ensures.0 _ _ c.put_record.ensures c.if-put_record.true _ c.cell_in-cell.ensures c.if-bytes-eq15.false) c.step_line.ensures

pub returns : goal.returns
returns c = as_call (no_record _ _ c.requires.1 c.in-Some.ensures.0 _ _ c.put_record.ensures c.if-put_record.false) c.refuse-2.ensures.done
