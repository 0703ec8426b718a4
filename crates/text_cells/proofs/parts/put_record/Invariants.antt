use Rattle.std.specs.Prelude.{Some}
use Prim.Native.Nat.{◌+◌}
use mathlib.Core.Path.{◌≡◌}
use lib.ListN.{take, drop}
use Rattle.text_form.specs.Cells.{cells_of}
use Rattle.text_form.specs.Lines.{joined, record_in}
use Rattle.text_cells.proofs.RecordLaws.{part_sizes, total, parts_from}
use Rattle.text_cells.proofs.parts.put_record.Given as goal

abbrev pub invariant-loop-name : goal.invariant-loop-name
invariant-loop-name l = (l.at + total (drop l.name part_sizes) ≡ 58)
    × (record_in l.columns (cells_of l.line) ≡ joined (Some (take l.at l.bytes)) (parts_from l.columns (cells_of l.line) l.name (drop l.name part_sizes)))
