use Prim.Native.Nat.{◌≤◌, ◌-◌, min}
use mathlib.Core.Path.{◌≡◌}
use Rattle.step_records.specs.Refusals.{sheet_refusal}
use Rattle.step_records.proofs.SheetLaws.{from}
use Rattle.step_records.proofs.sheet_refusals.sheet_refusal.Given as goal

abbrev pub invariant-loop : goal.invariant-loop
invariant-loop l = (1 ≤ l.found) × ((l.found ≤ 4) × (sheet_refusal l.counts l.bytes ≡ min l.found (from l.counts l.bytes l.at (l.count - l.counter))))
