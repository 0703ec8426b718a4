use Prim.Native.Nat.{◌*◌, ◌+◌, ◌-◌, ◌≤◌, min}
use mathlib.Core.Path.{◌≡◌}
use Rattle.step_records.specs.Refusals.{values_refusal}
use Rattle.step_records.proofs.sheet_refusals.values_refusal.Given as goal

abbrev pub invariant-loop-i : goal.invariant-loop-i
invariant-loop-i l = (l.found ≤ 4) × (values_refusal l.counts l.bytes l.at l.n ≡ min l.found (values_refusal l.counts l.bytes (l.at + 9 * l.i) (l.n - l.i)))
