-- How a step and the entering of a string end, and what they leave. Assumes nothing.
use Rattle.std.specs.Prelude.{Option, None, Some}
use Prim.Native.Nat.{ℕ, ◌+◌, ◌≤◌}
use native.Mathlib.Omega.{arith}
use mathlib.Core.Path.{◌≡◌, refl, ap, ◌∙◌, subst}
use mathlib.Core.Bool.{Bool, true, false, false≢true}
use mathlib.Core.List.{List, [], ◌∷◌}
use Rattle.text.specs.Strings.{Strings, Entry, enter}
use Rattle.text.specs.Strings as entry
use Rattle.value.specs.declared.Value.{Value}
use Rattle.value.specs.declared.Value.TheVariants as language
use Rattle.store.specs.Store.{Store, World}
use Rattle.internal_methods.specs.declared.Failure.TheVariants.{Refused, TypeError, Thrown}
use Rattle.internal_methods.specs.Monad.{Answer, State, Out, failed, done}
use Rattle.record.specs.Sheet.{sheet_of}
use Rattle.record.specs.Tests.{first_failing}
use Rattle.steps.specs.Sequence.{Ran}
use Rattle.steps.specs.Perform.{Result, value, maximum_calls}
use Rattle.steps.specs.Response.{Ending, refused, result, type_error, thrown, Effect}
use Rattle.steps.specs.Step.{record_tests, output_holds, output_after, with_store, refusing, responding, completed, unread, refusing_unread, ended, ran, tested, step}
use Rattle.steps.specs.StringEntry.{enter_string, entered}

-- Why a step ended as it did, with all that it answered and left
pub data Ends (ω : World) (bytes sheet output : List ℕ) : Effect → Type 0 where
  inadmissible : {n : ℕ} → first_failing (record_tests ω bytes sheet) ≡ Some n → Ends ω bytes sheet output (refusing n ω output)
  refuses : {n : ℕ} {s : State} {σ : Store} → first_failing (record_tests ω bytes sheet) ≡ None → ran ω bytes sheet ≡ (failed (Refused n) s, σ) → Ends ω bytes sheet output (refusing n ω output)
  errs : {n : ℕ} {s : State} {σ : Store} → first_failing (record_tests ω bytes sheet) ≡ None → ran ω bytes sheet ≡ (failed (TypeError n) s, σ) → s.answers ≡ []
      → Ends ω bytes sheet output (record { response = responding (type_error n) (sheet_of sheet) s; world = with_store ω σ; output = output })
  throws : {v : Value} {s : State} {σ : Store} → first_failing (record_tests ω bytes sheet) ≡ None → ran ω bytes sheet ≡ (failed (Thrown v) s, σ) → s.answers ≡ []
      → Ends ω bytes sheet output (record { response = responding (thrown v) (sheet_of sheet) s; world = with_store ω σ; output = output })
  leaves : {a : Answer} {rest : List Answer} → first_failing (record_tests ω bytes sheet) ≡ None → unread (ran ω bytes sheet).0 ≡ a ∷ rest → Ends ω bytes sheet output (refusing 13 ω output)
  short : {r : Result} {s : State} {σ : Store} → first_failing (record_tests ω bytes sheet) ≡ None → ran ω bytes sheet ≡ (done r s, σ) → s.answers ≡ [] → output_holds r output ≡ false
      → Ends ω bytes sheet output (refusing 11 ω output)
  results : {r : Result} {s : State} {σ : Store} → first_failing (record_tests ω bytes sheet) ≡ None → ran ω bytes sheet ≡ (done r s, σ) → s.answers ≡ [] → output_holds r output ≡ true
      → Ends ω bytes sheet output (record { response = responding (result r) (sheet_of sheet) s; world = with_store ω σ; output = output_after r output })

module _ (ω : World) (bytes sheet output : List ℕ) where
  -- a step by its tests and its run
  pub step_is : (t : Option ℕ) (x : Ran Result) → first_failing (record_tests ω bytes sheet) ≡ t → ran ω bytes sheet ≡ x
      → step ω bytes sheet output ≡ tested ω (sheet_of sheet) output x t
  unfolding step
  step_is t x e f = rw (e, f)

  pub ends : Ends ω bytes sheet output (step ω bytes sheet output)
  unfolding step
  ends = by_tests (first_failing (record_tests ω bytes sheet)) refl
    where
      by-room : (r : Result) (s : State) (σ : Store) (b : Bool) → output_holds r output ≡ b → first_failing (record_tests ω bytes sheet) ≡ None → ran ω bytes sheet ≡ (done r s, σ) → s.answers ≡ []
          → Ends ω bytes sheet output (completed ω (sheet_of sheet) output σ r s b)
      by-room r s σ false h p e q = short p e q h
      by-room r s σ true h p e q = results p e q h

      by-unread : (l : List Answer) {x : Effect} → unread (ran ω bytes sheet).0 ≡ l → first_failing (record_tests ω bytes sheet) ≡ None → (l ≡ [] → Ends ω bytes sheet output x)
          → Ends ω bytes sheet output (refusing_unread ω output l x)
      by-unread [] e p h = h refl
      by-unread (a ∷ rest) e p h = leaves p e

      by-run : (x : Out Result) (σ : Store) → ran ω bytes sheet ≡ (x, σ) → first_failing (record_tests ω bytes sheet) ≡ None → Ends ω bytes sheet output (ended ω (sheet_of sheet) output (x, σ))
      by-run (failed (Refused n) s) σ e p = refuses p e
      by-run (failed (TypeError n) s) σ e p = by-unread s.answers (ap (λ (x : Ran Result). unread x.0) e) p (λ q. errs p e q)
      by-run (failed (Thrown v) s) σ e p = by-unread s.answers (ap (λ (x : Ran Result). unread x.0) e) p (λ q. throws p e q)
      by-run (done r s) σ e p = by-unread s.answers (ap (λ (x : Ran Result). unread x.0) e) p (λ q. by-room r s σ (output_holds r output) refl p e q)

      by_tests : (t : Option ℕ) → first_failing (record_tests ω bytes sheet) ≡ t → Ends ω bytes sheet output (tested ω (sheet_of sheet) output (ran ω bytes sheet) t)
      by_tests (Some n) p = inadmissible p
      by_tests None p = by-run (ran ω bytes sheet).0 (ran ω bytes sheet).1 refl p

  -- a run that is done, with every answer read and room in the output
  pub step-done : (r : Result) (s : State) (σ : Store) → first_failing (record_tests ω bytes sheet) ≡ None → ran ω bytes sheet ≡ (done r s, σ) → s.answers ≡ [] → output_holds r output ≡ true
      → (step ω bytes sheet output).response.ending ≡ result r
  step-done r s σ p e u h = rw (step_is None (done r s, σ) p e, u, h)

  -- what holds of the store before a step, and of the store that its run left, holds of the store after it
  pub kept_by : (P : Store → Type 0) → P ω.store → (first_failing (record_tests ω bytes sheet) ≡ None → P (ran ω bytes sheet).1)
      → {x : Effect} → Ends ω bytes sheet output x → P x.world.store
  kept_by P h f (inadmissible p) = h
  kept_by P h f (refuses p e) = h
  kept_by P h f (errs p e u) = subst (λ (x : Ran Result). P x.1) e (f p)
  kept_by P h f (throws p e u) = subst (λ (x : Ran Result). P x.1) e (f p)
  kept_by P h f (leaves p e) = h
  kept_by P h f (short p e u q) = h
  kept_by P h f (results p e u q) = subst (λ (x : Ran Result). P x.1) e (f p)

-- the step was run to this result, and left this world
pub record Resulted (ω : World) (bytes sheet : List ℕ) (x : Effect) (r : Result) : Type 0 where
  pub store : Store
  pub rest : State
  pub runs : ran ω bytes sheet ≡ (done r rest, store)
  pub world : x.world ≡ with_store ω store
  pub passes : first_failing (record_tests ω bytes sheet) ≡ None

pub resulted : {ω : World} {bytes sheet output : List ℕ} {x : Effect} (r : Result) → Ends ω bytes sheet output x → x.response.ending ≡ result r → Resulted ω bytes sheet x r
resulted r (inadmissible {n = n} p) h = let g : refused n ≡ result r = h in absurd (false≢true cc)
resulted r (refuses {n = n} p e) h = let g : refused n ≡ result r = h in absurd (false≢true cc)
resulted r (errs {n = n} p e u) h = let g : type_error n ≡ result r = h in absurd (false≢true cc)
resulted r (throws {v = v} p e u) h = let g : thrown v ≡ result r = h in absurd (false≢true cc)
resulted r (leaves p e) h = let g : refused 13 ≡ result r = h in absurd (false≢true cc)
resulted r (short p e u q) h = let g : refused 11 ≡ result r = h in absurd (false≢true cc)
resulted r (results {r = a} {s = s} {σ = σ} p e u q) h =
    let g : result a ≡ result r = h in
    let i : a ≡ r = cc in
    record { store = σ; rest = s; runs = e ∙ ap (λ (y : Result). (done y s, σ)) i; world = refl; passes = p }

-- the calls made and the calls left are all that a step may make
pub calls-counted : (e : Ending) (answers : List Answer) (s : State) → s.calls ≤ maximum_calls → (responding e answers s).calls + s.calls ≡ maximum_calls
calls-counted e answers s h = omega (arith, h)

-- Why the entering of a string ended as it did, with all that it answered and left
pub data EntryEnds (ω : World) (units : List ℕ) : Effect → Type 0 where
  refuses : {n : ℕ} → enter ω.strings units ≡ entry.refused n → EntryEnds ω units (refusing n ω [])
  enters : {n : ℕ} {strings : Strings} → enter ω.strings units ≡ entry.entered n strings
      → EntryEnds ω units (record { response = record { ending = result (value (language.String n)); answers = 0; calls = 0 }; world = record { store = ω.store; strings = strings }; output = [] })

pub entry-ends : (ω : World) (units : List ℕ) → EntryEnds ω units (enter_string ω units)
unfolding enter_string
entry-ends ω units = go (enter ω.strings units) refl
  where
    go : (x : Entry) → enter ω.strings units ≡ x → EntryEnds ω units (entered ω x)
    go (entry.refused n) e = refuses e
    go (entry.entered n strings) e = enters e
