-- Laws of the lists that a sheet's answers hold. Assumes nothing.
use Rattle.std.specs.Prelude.{Option, None, Some}
use Prim.Native.Nat.{ℕ, zero, suc, ◌+◌, ◌*◌, ◌≤◌}
use native.Mathlib.Omega.{arith}
use mathlib.Core.Path.{◌≡◌, refl, sym, ap}
use mathlib.Core.Bool.{true, false, false≢true}
use mathlib.Core.List.{List}
use lib.Dec.{leb}
use lib.ListN.{length}
use borrow.Author.Tests.{leb-true}
use Rattle.value.proofs.Bools.{and-true}
use Rattle.value.specs.declared.PropertyKey.{PropertyKey}
use Rattle.internal_methods.specs.declared.Failure.TheVariants.{TypeError}
use Rattle.internal_methods.specs.Monad.{keys, State, failed, done, pure, fails}
use Rattle.internal_methods.specs.Answers.{keys_of, listed}
use Rattle.record.specs.Bytes.{value_size}
use Rattle.record.specs.Step.{is_some}
use Rattle.record.specs.Sheet.{values_at, values_pass}
use Rattle.sheet.specs.declared.Answer.TheVariants as read
use Rattle.sheet.specs.declared.NextAnswer.{NextAnswer}
use Rattle.sheet.specs.Next.{answers_from, Next}
use Rattle.key_lists.specs.Keys.{keys_held, is_bounded_key}
use Rattle.own_keys.specs.Lists.{LoadableAt, is_list_fit, are_lists_fit}

length-values : (bytes : List ℕ) (i n : ℕ) → length (values_at bytes i n) ≡ n
unfolding values_at
length-values bytes i zero = refl
length-values bytes i (suc n) = ap suc (length-values bytes (i + value_size) n)

-- the list that is answered can be loaded, if all of its values are keys
pub loadable : (bytes : List ℕ) (at left : ℕ) (r : NextAnswer) → Next bytes at left (Some r) → (first n : ℕ) → r.answer ≡ read.Keys first n
    → are_lists_fit (answers_from bytes at left) ≡ true → is_some (keys_of (values_at bytes first n)) ≡ true → LoadableAt bytes (record { first = first; count = n })
unfolding are_lists_fit
loadable bytes at left r h first n e f k =
    let within : first + value_size * n ≤ length bytes = rw e at h.within in
    let list-fit : is_list_fit (keys (values_at bytes first n)) ≡ true = (and-true (is_list_fit (keys (values_at bytes first n))) _ (rw (h.tells, e) at f)).0 in
    let (few, known) = and-true (leb (length (values_at bytes first n)) 256) (values_pass is_bounded_key (values_at bytes first n)) list-fit in
    record {
      within = within;
      few = omega (arith, leb-true (length (values_at bytes first n)) 256 few, length-values bytes first n);
      all-keys = k;
      known = known;
    }

module _ (x : Option (List PropertyKey)) (s : State) where
  pub listed_keys : is_some x ≡ true → (listed x).run s ≡ done (keys_held x) s
  unfolding pure
  listed_keys h = go x h
    where
      go : (x : Option (List PropertyKey)) → is_some x ≡ true → (listed x).run s ≡ done (keys_held x) s
      go None h = absurd (false≢true h)
      go (Some ks) h = refl

  pub listed_others : is_some x ≡ false → (listed x).run s ≡ failed (TypeError 30) s
  unfolding fails
  listed_others h = go x h
    where
      go : (x : Option (List PropertyKey)) → is_some x ≡ false → (listed x).run s ≡ failed (TypeError 30) s
      go None h = refl
      go (Some ks) h = absurd (false≢true (sym h))
