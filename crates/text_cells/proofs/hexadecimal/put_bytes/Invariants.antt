use Rattle.std.specs.Prelude.{Some}
use Prim.Native.Nat.{◌*◌}
use mathlib.Core.Path.{◌≡◌}
use lib.ListN.{take, drop}
use Rattle.record.specs.Characters.{bytes_in}
use Rattle.text_form.specs.Lines.{joined}
use Rattle.text_cells.proofs.hexadecimal.put_bytes.Given as goal

abbrev pub invariant-loop-i : goal.invariant-loop-i
invariant-loop-i l = bytes_in l.digits ≡ joined (Some (take l.i l.bytes)) (bytes_in (drop (2 * l.i) l.digits))
