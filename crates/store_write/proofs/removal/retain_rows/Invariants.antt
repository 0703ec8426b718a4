use Prim.Native.Nat.{◌-◌, ◌≤◌}
use mathlib.Core.Path.{◌≡◌}
use mathlib.Core.Bool.{Bool}
use lib.ListN.{length}
use Rattle.store.specs.declared.Entry.{Entry}
use Rattle.store.specs.Words.{swept, without_rows}
use Rattle.store_write.specs.Write.{StaysUnless}
use Rattle.store_write.proofs.removal.retain_rows.Given as goal

abbrev pub invariant-loop-i : goal.invariant-loop-i
invariant-loop-i g l =
    (l.kept ≤ l.i)
    × ((length l.words ≡ 1670)
    × ((test : Entry → Bool) → StaysUnless test (goal.F-post g l.stays) → without_rows test l.initial.words ≡ swept test (l.i-end - l.i) l.words l.i l.kept))
