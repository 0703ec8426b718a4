use Rattle.std.specs.Prelude.{Some}
use Prim.Native.Nat.{◌*◌}
use mathlib.Core.Path.{◌≡◌}
use lib.ListN.{take, drop}
use Rattle.text_form.specs.Cells.{units_of}
use Rattle.text_form.specs.Lines.{joined}
use Rattle.text_cells.proofs.hexadecimal.put_units.Given as goal

abbrev pub invariant-loop-i : goal.invariant-loop-i
invariant-loop-i l = units_of l.bytes ≡ joined (Some (take l.i l.units)) (units_of (drop (2 * l.i) l.bytes))
