-- The keys that are left, a key at a time, for `grind`. Assumes nothing.
use Prim.Native.Nat.{ℕ, ◌+◌, ◌<◌, ◌≤◌}
use native.Mathlib.Numerals.{add-one}
use mathlib.Core.Path.{◌≡◌}
use mathlib.Core.Bool.{true, false}
use mathlib.Core.List.{List, [], map}
use lib.ListN.{length, get_or, drop, drop_of_length-le}
use lib.Seq.{drop-cons}
use Rattle.value.specs.declared.PropertyKey.{PropertyKey}
use Rattle.store.specs.Store.{Store}
use Rattle.store_read.specs.Answers.{key_from_word}
use Rattle.internal_methods.specs.Monad.{State, done, pure, next, ◌>>=◌, when◌then◌else◌}
use Rattle.internal_methods.specs.Methods.{Methods}
use Rattle.steps.specs.Operation.{Level}
use Rattle.steps.specs.Sequence.{Sequence, for_each}
use Rattle.steps.specs.Sequence as sequence
use Rattle.steps.specs.TestIntegrityLevel.{is_loose, test_properties}

module _ (ws : List ℕ) (i : ℕ) where
  -- 7.3.16 steps 5 and 6
  module _ (call : Methods) (o : ℕ) (level : Level) (s : State) where
    pub test_next : i < length ws → (test_properties call o level (map key_from_word (drop i ws))).run s
        ≡ next (λ p. when is_loose level p then pure false else test_properties call o level (map key_from_word (drop (i + 1) ws))) ((call.get_own_property o (key_from_word (get_or ws i 0))).run s)
    unfolding test_properties ◌>>=◌
    test_next l = rw (drop-cons ws i 0 l, add-one i)

    pub test_end : length ws ≤ i → (test_properties call o level (map key_from_word (drop i ws))).run s ≡ done true s
    unfolding test_properties pure
    test_end l = let none : drop i ws ≡ [] = drop_of_length-le ws {i = i} l in rw none

  -- 7.3.15 steps 4 and 5
  module _ (turn : PropertyKey → Sequence (Unit {0})) (σ : Store) (s : State) where
    pub each_next : i < length ws → (for_each turn (map key_from_word (drop i ws))).run σ s
        ≡ sequence.next (λ _. for_each turn (map key_from_word (drop (i + 1) ws))) ((turn (key_from_word (get_or ws i 0))).run σ s).0 ((turn (key_from_word (get_or ws i 0))).run σ s).1
    unfolding for_each sequence.◌>>=◌
    each_next l = rw (drop-cons ws i 0 l, add-one i)

    pub each_end : length ws ≤ i → (for_each turn (map key_from_word (drop i ws))).run σ s ≡ (done tt s, σ)
    unfolding for_each sequence.pure
    each_end l = let none : drop i ws ≡ [] = drop_of_length-le ws {i = i} l in rw none
