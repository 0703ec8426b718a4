-- The loop's invariant: from here the call arrives where it arrives from o, with a call less for each level less. Assumes nothing.
use Prim.Native.Nat.{ℕ, ◌+◌, ◌≤◌}
use mathlib.Core.Path.{◌≡◌}
use mathlib.Core.List.{List}
use Rattle.store.specs.Words.{store_of}
use Rattle.calls.specs.Entering.{entering}
use Rattle.calls.specs.Outs.{state_of}
use Rattle.calls.proofs.entry.go_down.Given as goal

abbrev pub invariant-loop-left : goal.invariant-loop-left
invariant-loop-left l = record {
  at : l.progress.at ≡ l.fn.progress.at;
  left : l.progress.left ≡ l.fn.progress.left;
  start : l.left-start ≤ l.left;
  calls : l.progress.calls + l.depth ≡ l.fn.progress.calls + l.left;
  arrives : (sheet : List ℕ) → (entering l.trap (store_of l.store.words.now) l.left l.object).run (state_of sheet l.progress) ≡ (entering l.trap (store_of l.store.words.now) l.depth l.o).run (state_of sheet l.fn.progress);
}
