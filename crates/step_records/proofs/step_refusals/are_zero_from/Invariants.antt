-- The loop's invariant: the bytes from `at` to i are zero, and i is at most 57. The measure is what is left to 58.
use Prim.Native.Nat.{◌≤◌, ◌-◌}
use mathlib.Core.Path.{◌≡◌}
use mathlib.Core.Bool.{true}
use Rattle.record.specs.Bytes.{are_zero}
use Rattle.step_records.proofs.step_refusals.are_zero_from.Given as goal

abbrev pub invariant-loop-i : goal.invariant-loop-i
invariant-loop-i l = (l.at ≤ l.i) × (l.i ≤ 57) × (are_zero l.bytes l.at (l.i - l.at) ≡ true)

abbrev pub decreases-loop-i : goal.decreases-loop-i
decreases-loop-i l = 58 - l.i
