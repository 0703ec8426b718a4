use native.Mathlib.Omega.{arith}
use Prim.Native.Nat.{◌*◌}
use lib.ListN.{length}
use Rattle.record.specs.Characters.{hexadecimal}
use Rattle.record.proofs.CharacterLaws.{length-hexadecimal}
use Rattle.text_rows.proofs.RowLaws.{written_byte, cell-written}
use Rattle.text_rows.proofs.put_bytes.Goals as goal

pub returns : goal.returns
returns c = let b = c.args.bytes.now in
    cell-written b c.requires.0
    (written_byte _ _ c.args.at (2 * length b) _ (hexadecimal b) 10 c.put_hexadecimal-end.ensures.0 (omega (arith, c.put_hexadecimal-end.ensures.1, length-hexadecimal b)) (omega (arith, c.put_hexadecimal-end.ensures.1)))
