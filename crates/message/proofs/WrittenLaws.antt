-- A text that fits, and one that does not. Assumes nothing.
use Prim.Native.Nat.{ℕ, ◌≤◌, ◌<◌, ◌+◌}
use native.Mathlib.Omega.{arith}
use mathlib.Core.Path.{◌≡◌}
use mathlib.Core.List.{List, ◌++◌}
use lib.ListN.{length, drop}
use lib.Seq.{sets-eq}
use borrow.Author.Tests.{le-leb, lt-leb}
use Rattle.text.proofs.TableLaws.{overwrite-sets}
use Rattle.message.specs.Written.{written}

module _ (message text bytes : List ℕ) (is : message ≡ text) where
  pub written-fits : (front : List ℕ) → front ≡ message → length message ≤ length bytes → front ++ drop (length message) bytes ≡ written text bytes
  unfolding written
  written-fits front e h =
      let z : 0 + length text ≡ length text = omega arith in
      let l : length text ≤ length bytes = rw is at h in
      rw (e, is, le-leb _ _ l, overwrite-sets, sets-eq text bytes 0 (omega arith), z)

  pub written-not : length bytes < length message → bytes ≡ written text bytes
  unfolding written
  written-not h = let l : length bytes < length text = rw is at h in rw (lt-leb _ _ l)
