use Prim.Native.Nat.{◌+◌, ◌-◌, ◌*◌}
use native.Mathlib.Omega.{arith}
use Rattle.step_records.proofs.SheetLaws.{values_more}
use Rattle.step_records.proofs.sheet_refusals.values_refusal.Goals as goal

pub loop-i-preserved : goal.loop-i-preserved
loop-i-preserved c = grind (arith, values_more c.args.counts c.args.bytes.now (c.args.at + 9 * c.loop-i.i) (c.args.n - c.loop-i.i))
