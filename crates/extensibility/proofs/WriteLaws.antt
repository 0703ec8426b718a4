-- When a write to an object of the store is one that its words can take. Assumes nothing.
use Rattle.std.specs.Prelude.{Some}
use Prim.Native.Nat.{ℕ, ◌<◌, ◌^◌}
use mathlib.Core.Path.{◌≡◌}
use mathlib.Core.Bool.{true}
use mathlib.Core.List.{List}
use Rattle.value.specs.declared.PropertyKey.{PropertyKey}
use Rattle.value.specs.PropertyKey.{key_number}
use Rattle.value.specs.Bits.{bit}
use Rattle.store.specs.declared.Object.{Object}
use Rattle.store.specs.declared.Object.TheVariants as object
use Rattle.store.specs.Store.{lookup}
use Rattle.store.specs.Words.{live_at, word_at, is_store, store_of}
use Rattle.store.proofs.WordLaws.{sized}
use Rattle.store_read.proofs.ReadLaws.{lookup-marked, lookup-below}
use Rattle.store_write.specs.Write.{Joins}
use Rattle.calls.specs.Entering.{ordinary}

module _ (words : List ℕ) (o : ℕ) where
  -- an object that is there is marked as live, so another may stand in its place
  pub live : (x : Object) → is_store words ≡ true → lookup (store_of words) o ≡ Some x → bit (word_at words live_at) o ≡ true
  live x h found = lookup-marked words (sized words h) o x found

  pub ordinary_live : is_store words ≡ true → lookup (store_of words) o ≡ Some (object.Ordinary (ordinary (store_of words) o)) → bit (word_at words live_at) o ≡ true
  ordinary_live h found = live _ h found

  -- a word can join the object and a key that fits
  pub joins : (k : PropertyKey) (x : Object) → is_store words ≡ true → key_number k < 2 ^ 58 → lookup (store_of words) o ≡ Some x → Joins o k
  joins k x h n found = record { owner = lookup-below words o x found; number = n }

-- and its number is below 32
pub ordinary_below : (words : List ℕ) (o : ℕ) → lookup (store_of words) o ≡ Some (object.Ordinary (ordinary (store_of words) o)) → o < 32
ordinary_below words o found = lookup-below words o _ found
