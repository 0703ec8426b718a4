use Rattle.std.specs.Prelude.{Some}
use Prim.Native.Nat.{ℕ, ◌<◌}
use mathlib.Core.Path.{◌≡◌}
use lib.ListN.{get_or}
use Rattle.value.specs.PropertyKey.{key_of}
use Rattle.store_read.specs.Answers.{key_from_word}
use Rattle.key_lists.proofs.KeyLaws.{value_in}
use Rattle.key_lists.proofs.key_bytes.load_keys.Given as goal

abbrev pub invariant-loop-i : goal.invariant-loop-i
invariant-loop-i l =
    (k : ℕ) → k < l.i → (key_of (value_in l.sheet l.first k) ≡ Some (key_from_word (get_or l.word-items k 0))) × (get_or l.word-items k 0 < 512)
