use Prim.Native.Nat.{◌+◌, ◌*◌}
use mathlib.Core.Path.{◌≡◌}
use lib.ListN.{drop}
use lib.Seq.{sets}
use Rattle.record.specs.Characters.{hexadecimal}
use Rattle.text_rows.proofs.digits.put_hexadecimal.Given as goal

abbrev pub invariant-loop-b : goal.invariant-loop-b
invariant-loop-b l = (l.next ≡ l.at + 2 * l.b-index) × (sets l.initial.out l.at (hexadecimal l.bytes) ≡ sets l.out l.next (hexadecimal (drop l.b-index l.bytes)))
