use native.Mathlib.Omega.{arith}
use mathlib.Core.Path.{sym}
use Rattle.record.specs.Bytes.{value_bytes}
use Rattle.record.proofs.RoundTrip.{length-value}
use Rattle.text_rows.proofs.RowLaws.{widen, filled-written}
use Rattle.text_rows.proofs.put_value.Goals as goal

pub returns : goal.returns
returns c = let v = c.args.v in
    widen 19 (omega (arith, length-value v)) (filled-written _ _ (value_bytes v) c.put_value.ensures (sym (length-value v)) c.put_bytes.ensures)
