-- A store lists few keys. Assumes nothing.
use Prim.Native.Nat.{ℕ, ◌≤◌}
use native.Mathlib.Omega.{arith}
use mathlib.Core.Path.{◌≡◌, sym}
use mathlib.Core.Bool.{true}
use mathlib.Core.List.{List}
use lib.ListN.{length, length-append}
use Rattle.text.specs.Strings.{Strings}
use Rattle.store.specs.Words.{is_store, store_of}
use Rattle.store.specs.OwnKeys.{ordinary_own_property_keys}
use Rattle.store_read.specs.Answers.{Listed}
use Rattle.store.proofs.WordLaws.{sized}
use Rattle.store_read.proofs.ListLaws.{listed-length, length-ascending, classes-fit, ordered-keys}

-- a store has no more properties
own-few : (strings : Strings) (words : List ℕ) (o : ℕ) → is_store words ≡ true → length (ordinary_own_property_keys strings (store_of words) o) ≤ 256
own-few strings words o h =
    rw (sym (ordered-keys strings words o (sized words h)))
    (simp (length-append, length-ascending) (omega (arith, classes-fit strings words o (sized words h))))

pub own_listed_few : (strings : Strings) (words before after : List ℕ) (o n : ℕ)
    → Listed before after n (ordinary_own_property_keys strings (store_of words) o) → is_store words ≡ true → n ≤ 256
own_listed_few strings words before after o n l h = omega (arith, own-few strings words o h, listed-length _ _ _ _ l)
