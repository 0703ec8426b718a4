-- A method's end as an operation's end, in the definitions. Assumes nothing.
use Prim.Native.Nat.{ℕ}
use mathlib.Core.Path.{◌≡◌, refl, sym}
use mathlib.Core.Bool.{Bool, true}
use mathlib.Core.List.{List}
use borrow.Author.Tests.{eqb-true, ne_eqb}
use Rattle.std.specs.Prelude.{Option, None, Some, Result, Ok, Err}
use Rattle.value.specs.declared.Value.{Value}
use Rattle.property.specs.declared.Property.{Property}
use Rattle.store.specs.Store.{Store}
use Rattle.store.specs.Words.{store_of}
use Rattle.internal_methods.specs.declared.Failure.{Failure}
use Rattle.internal_methods.specs.Monad.{State, M, pure, next, ◌>>=◌}
use Rattle.calls.specs.declared.progress.Progress.{Progress}
use Rattle.calls.specs.declared.written.Written.{Written}
use Rattle.calls.specs.Outs.{out, out_write, Fitting}
use Rattle.steps.specs.Perform.{once, reading, writing, own_result}
use Rattle.steps.specs.Perform as result
use Rattle.reporting.specs.Performed.{Taken, out_completed, out_performed}
use Rattle.performing.specs.Results.{value_result, boolean_result, own_property_result, write_result, is_reading}

-- an operation that writes nothing
module _ (sheet : List ℕ) (σ : Store) (s : State) (t : Progress) where
  pub value_told : (m : M Value) (r : Result Value Failure) → out sheet r t ≡ m.run s → out_completed sheet σ (value_result r) t ≡ (once σ (reading σ result.value m)).run s
  unfolding once pure next ◌>>=◌
  value_told m (Err e) h = rw (sym h)
  value_told m (Ok v) h = rw (sym h)

  pub boolean_told : (m : M Bool) (r : Result Bool Failure) → out sheet r t ≡ m.run s → out_completed sheet σ (boolean_result r) t ≡ (once σ (reading σ result.boolean m)).run s
  unfolding once pure next ◌>>=◌
  boolean_told m (Err e) h = rw (sym h)
  boolean_told m (Ok b) h = rw (sym h)

  pub own_told : (m : M (Option Property)) (r : Result (Option Property) Failure) → out sheet r t ≡ m.run s → out_completed sheet σ (own_property_result r) t ≡ (once σ (reading σ own_result m)).run s
  unfolding once pure next ◌>>=◌
  own_told m (Err e) h = rw (sym h)
  own_told m (Ok None) h = rw (sym h)
  own_told m (Ok (Some p)) h = rw (sym h)

-- one that may write
module _ (words sheet : List ℕ) (s : State) (t : Progress) where
  pub write_told : (m : M (Bool × Store)) (r : Result Written Failure) → out_write sheet (store_of words) r t ≡ m.run s → out_performed sheet (store_of words) (write_result r) t ≡ (once (store_of words) (writing m)).run s
  unfolding once pure next ◌>>=◌
  write_told m (Err e) h = rw (sym h)
  write_told m (Ok w) h = rw (sym h)

pub write_taken : (words : List ℕ) (r : Result Written Failure) → Fitting words r → Taken words (write_result r)
write_taken words (Err e) h = tt
write_taken words (Ok w) h = (h, refl)

-- the last of the codes that read
pub last_reading : (code : ℕ) → is_reading code ≡ true → (code ≡ 4 → ⊥) → (code ≡ 6 → ⊥) → (code ≡ 8 → ⊥) → (code ≡ 10 → ⊥) → code ≡ 11
unfolding is_reading
last_reading code e a b c d = eqb-true code 11 (simp (ne_eqb code 4 a, ne_eqb code 6 b, ne_eqb code 8 c, ne_eqb code 10 d) at e)
