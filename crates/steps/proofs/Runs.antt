-- Why a run ends in refusals 7, 9 and 10, and that these reasons decide it. Assumes nothing.
use Prim.Native.Nat.{ℕ, suc, ◌+◌, ◌-◌, ◌≤◌, ◌<◌}
use native.Mathlib.Nat.{le_refl, not-suc-le-zero, not-suc-le_self}
use native.Mathlib.Omega.{arith}
use mathlib.Core.Path.{◌≡◌, refl, sym, ap, ◌∙◌, subst}
use mathlib.Core.Bool.{Bool, true, false, not, false≢true}
use mathlib.Core.List.{List, ◌∷◌, ◌++◌}
use lib.ListN.{length}
use borrow.Author.Tests.{ltb-false, le-ltb, not-true}
use Rattle.value.specs.declared.Value.{Value}
use Rattle.store.specs.Store.{Store, World, live_count, named, maximum_objects, maximum_properties}
use Rattle.internal_methods.specs.declared.Failure.{Failure}
use Rattle.internal_methods.specs.declared.Failure.TheVariants.{Refused, Thrown}
use Rattle.internal_methods.specs.Monad.{Answer, throw, State, state, Out, failed, done}
use Rattle.internal_methods.specs.Readable.{Reading, is_unreadable}
use Rattle.internal_methods.proofs.Walk.{allowing}
use Rattle.internal_methods.proofs.Reader.{is_nine, Ended}
use Rattle.internal_methods.proofs.Reader as reader
use Rattle.internal_methods.proofs.Richer.{is_ten, calls_left, Shifted}
use Rattle.internal_methods.proofs.Room.{is_seven}
use Rattle.record.specs.Sheet.{sheet_of}
use Rattle.steps.specs.Operation.{makes_object, writes_in_turn, asked}
use Rattle.steps.specs.Sequence.{Ran}
use Rattle.steps.specs.Perform.{Result, value, boolean, maximum_calls, perform}
use Rattle.steps.specs.Step.{context_of, ran, run_with, calls_made}
use Rattle.steps.proofs.Lifted.{perform-reader, perform-richer, RoomOut, perform-room, perform-fits, MakesOut, perform-makes}
use Rattle.steps.proofs.Sequences.{joined, settled, Led}

-- 7: an object is to be made and there are 32, or with room for one property more the run is done
pub data Crowded (ω : World) (bytes sheet : List ℕ) : Type 0 where
  by-objects : makes_object (asked bytes) ≡ true → maximum_objects ≤ live_count ω.store → Crowded ω bytes sheet
  by-properties : {τ : Store} {s : State} → maximum_properties ≤ length ω.store.properties
      → run_with ω bytes (suc (length ω.store.properties)) (sheet_of sheet) maximum_calls ≡ (done (boolean true) s, τ)
      → length τ.properties ≡ suc (length ω.store.properties) → Crowded ω bytes sheet

-- 9: the last answer taken cannot be read, and a throw in its place ends the run
pub record Unreadable (ω : World) (bytes sheet : List ℕ) (s : State) : Type 0 where
  pub used : List Answer
  pub last : Answer
  pub asked-for : Reading
  pub splits : sheet_of sheet ≡ used ++ (last ∷ s.answers)
  pub unreadable : is_unreadable asked-for last ≡ true
  pub throws : (v : Value) → (run_with ω bytes maximum_properties (used ++ (throw v ∷ s.answers)) maximum_calls).0 ≡ failed (Thrown v) s

-- a failure is the same with and without the store
failed-joined : (σ : Store) (x : Out Result) (f : Failure) (t : State) → joined σ x ≡ failed f t → x ≡ failed f t
failed-joined σ (failed g s) f t e = let p : g ≡ f = cc in let q : s ≡ t = cc in rw (p, q)
failed-joined σ (done r s) f t e = absurd (false≢true cc)

joined-failed : (σ : Store) (x : Out Result) (f : Failure) (t : State) → x ≡ failed f t → joined σ x ≡ failed f t
joined-failed σ x f t e = ap (joined σ) e

module _ (ω : World) (bytes sheet : List ℕ) where
  abbrev from : State
  from = state (sheet_of sheet) maximum_calls

  pub crowded-ran : makes_object (asked bytes) ≡ true → maximum_objects ≤ live_count ω.store → (ran ω bytes sheet).0 ≡ failed (Refused 7) from
  unfolding ran
  crowded-ran m h = of-making (perform-makes (context_of ω) maximum_calls maximum_properties (asked bytes) m from)
    where
      of-making : {x : Ran Result} → MakesOut (context_of ω) maximum_calls from x → x.0 ≡ failed (Refused 7) from
      of-making (MakesOut.made x b e) = absurd (false≢true (sym (le-ltb _ _ h) ∙ e))
      of-making (MakesOut.crowded e) = refl

  pub full-ran : (τ : Store) (s : State) → maximum_properties ≤ length ω.store.properties → run_with ω bytes (suc (length ω.store.properties)) (sheet_of sheet) maximum_calls ≡ (done (boolean true) s, τ)
      → length τ.properties ≡ suc (length ω.store.properties) → (t : State) × ((ran ω bytes sheet).0 ≡ failed (Refused 7) t)
  unfolding ran
  full-ran τ s l r h = by-operation (makes_object (asked bytes)) refl (writes_in_turn (asked bytes)) refl
    where
      no-boolean : {C : Type 0} (n : ℕ) (b : Bool) → done (value (named b n)) from ≡ done (boolean true) s → C
      no-boolean n true e = absurd (false≢true cc)
      no-boolean n false e = absurd (false≢true cc)

      of-making : {x : Ran Result} → MakesOut (context_of ω) maximum_calls from x → x ≡ (done (boolean true) s, τ) → (t : State) × (((perform maximum_calls (context_of ω) (asked bytes)).run from).0 ≡ failed (Refused 7) t)
      of-making (MakesOut.made x b e) q = no-boolean _ b (ap (λ (x : Ran Result). x.0) q)
      of-making (MakesOut.crowded e) q = let i : failed (Refused 7) from ≡ done (boolean true) s = ap (λ (x : Ran Result). x.0) q in absurd (false≢true cc)

      longer : (υ : Store) → υ ≡ τ → length υ.properties ≤ length ω.store.properties → ⊥
      longer υ i bound = not-suc-le_self _ (subst (λ (n : ℕ). n ≤ length ω.store.properties) (ap (λ (x : Store). length x.properties) i ∙ h) bound)

      of_room : {x y : Ran Result} → RoomOut (context_of ω) x y → y ≡ (done (boolean true) s, τ) → (t : State) × (x.0 ≡ failed (Refused 7) t)
      of_room (RoomOut.done {τ = υ} b) q = absurd (longer υ (ap (λ (x : Ran Result). x.1) q) (b (ap not (le-ltb _ _ l))))
      of_room (RoomOut.failed {f = f} {t = t} e) q = let i : failed f t ≡ done (boolean true) s = ap (λ (x : Ran Result). x.0) q in absurd (false≢true cc)
      of_room (RoomOut.added {t = t} f e) q = (t, refl)

      of_turns : {x : Out Result} {υ : Store} → Led (λ (r : Result) (σ : Store). length σ.properties ≤ length ω.store.properties) (λ f σ. is_seven f ≡ false) x υ
          → x ≡ done (boolean true) s → υ ≡ τ → ⊥
      of_turns (Led.done {τ = υ} b) q i = longer υ i b
      of_turns (Led.failed e) q i = false≢true cc

      by-operation : (b : Bool) → makes_object (asked bytes) ≡ b → (d : Bool) → writes_in_turn (asked bytes) ≡ d → (t : State) × (((perform maximum_calls (context_of ω) (asked bytes)).run from).0 ≡ failed (Refused 7) t)
      by-operation true m d w = of-making (perform-makes (context_of ω) maximum_calls (suc (length ω.store.properties)) (asked bytes) m from) r
      by-operation false m false w = of_room (perform-room (context_of ω) maximum_calls (asked bytes) m w from) r
      by-operation false m true w = absurd (of_turns (perform-fits (allowing (context_of ω) (suc (length ω.store.properties))) maximum_calls (asked bytes) w from)
          (ap (λ (x : Ran Result). x.0) r) (ap (λ (x : Ran Result). x.1) r))

  pub exhausted-ran : maximum_calls < calls_made (maximum_calls + 1) (run_with ω bytes maximum_properties (sheet_of sheet) (maximum_calls + 1)).0 → (t : State) × ((ran ω bytes sheet).0 ≡ failed (Refused 10) t)
  unfolding ran
  exhausted-ran h = of_shift ((perform maximum_calls (context_of ω) (asked bytes)).run from) (run_with ω bytes maximum_properties (sheet_of sheet) (maximum_calls + 1))
      ((perform-richer maximum_calls (maximum_calls + 1) (omega arith) (context_of ω) (asked bytes)).shifted 1 from (le_refl _) (le_refl _)) refl refl h
    where
      made : (budget : ℕ) (σ : Store) (y : Out Result) (z : Out (Result × Store)) → joined σ y ≡ z → calls_made budget y ≡ budget - calls_left z
      made budget σ (failed f t) z e = ap (λ (x : Out (Result × Store)). budget - calls_left x) e
      made budget σ (done r t) z e = ap (λ (x : Out (Result × Store)). budget - calls_left x) e

      of_shift : (x y : Ran Result) {u v : Out (Result × Store)} → Shifted 1 maximum_calls u v → joined x.1 x.0 ≡ u → joined y.1 y.0 ≡ v → maximum_calls < calls_made (maximum_calls + 1) y.0 → (t : State) × (x.0 ≡ failed (Refused 10) t)
      of_shift x y (Shifted.done {t = t} q) i j g = let z : suc maximum_calls ≤ maximum_calls = omega (arith, g, made (maximum_calls + 1) y.1 y.0 _ j) in absurd (not-suc-le_self _ z)
      of_shift x y (Shifted.failed {t = t} q) i j g = let z : suc maximum_calls ≤ maximum_calls = omega (arith, g, made (maximum_calls + 1) y.1 y.0 _ j) in absurd (not-suc-le_self _ z)
      of_shift x y (Shifted.exhausted {t = t} q l) i j g = (t, failed-joined x.1 x.0 _ t i)

  -- 7, by the operation
  pub seven : (s : State) → (ran ω bytes sheet).0 ≡ failed (Refused 7) s → Crowded ω bytes sheet
  unfolding ran
  seven s e = by-operation (makes_object (asked bytes)) refl (writes_in_turn (asked bytes)) refl
    where
      of-making : {x : Ran Result} → makes_object (asked bytes) ≡ true → MakesOut (context_of ω) maximum_calls from x → x.0 ≡ failed (Refused 7) s → Crowded ω bytes sheet
      of-making m (MakesOut.made x b h) q = absurd (false≢true cc)
      of-making m (MakesOut.crowded h) q = by-objects m (ltb-false _ _ h)

      of_room : {x y : Ran Result} → RoomOut (context_of ω) x y → x.0 ≡ failed (Refused 7) s → run_with ω bytes (suc (length ω.store.properties)) (sheet_of sheet) maximum_calls ≡ y → Crowded ω bytes sheet
      of_room (RoomOut.done h) q r = absurd (false≢true cc)
      of_room (RoomOut.failed {f = f} h) q r = let g : f ≡ Refused 7 = cc in absurd (false≢true (sym h ∙ ap is_seven g))
      of_room (RoomOut.added f h) q r = by-properties (ltb-false _ _ (not-true _ f)) r h

      of_turns : {x : Out Result} {υ : Store} → Led (λ (r : Result) (σ : Store). length σ.properties ≤ length ω.store.properties) (λ f σ. is_seven f ≡ false) x υ → x ≡ failed (Refused 7) s → ⊥
      of_turns (Led.done b) q = false≢true cc
      of_turns (Led.failed {f = f} h) q = let g : f ≡ Refused 7 = cc in false≢true (sym h ∙ ap is_seven g)

      by-operation : (b : Bool) → makes_object (asked bytes) ≡ b → (d : Bool) → writes_in_turn (asked bytes) ≡ d → Crowded ω bytes sheet
      by-operation true m d w = of-making m (perform-makes (context_of ω) maximum_calls maximum_properties (asked bytes) m from) e
      by-operation false m false w = of_room (perform-room (context_of ω) maximum_calls (asked bytes) m w from) e refl
      by-operation false m true w = absurd (of_turns (perform-fits (context_of ω) maximum_calls (asked bytes) w from) e)

  -- 9, by the last answer
  pub nine : (s : State) → (ran ω bytes sheet).0 ≡ failed (Refused 9) s → Unreadable ω bytes sheet s
  unfolding ran
  nine s e = of_end ((perform-reader maximum_calls (context_of ω) (asked bytes)).ended from) (joined-failed _ _ _ _ e)
    where
      of_end : {x : Out (Result × Store)} → Ended (settled (perform maximum_calls (context_of ω) (asked bytes))) from x → x ≡ failed (Refused 9) s → Unreadable ω bytes sheet s
      of_end (reader.done used q h) g = absurd (false≢true cc)
      of_end (reader.unreadable {t} used a r u q h) g =
          let i : t ≡ s = cc in
          subst (Unreadable ω bytes sheet) i (record { used = used; last = a; asked-for = r; splits = q; unreadable = u; throws = λ v. failed-joined _ _ _ _ (h v t.answers) })
      of_end (reader.other {f} h) g = let i : f ≡ Refused 9 = cc in absurd (false≢true (sym h ∙ ap is_nine i))

  -- 10, by larger budgets
  made_more : (more : ℕ) (σ : Store) (y : Out Result) (x : Out (Result × Store)) → joined σ y ≡ x → calls_left x < more → maximum_calls < calls_made (maximum_calls + more) y
  made_more more σ (failed f t) x e h = let i : t.calls < more = subst (λ (z : Out (Result × Store)). calls_left z < more) (sym e) h in omega (arith, i)
  made_more more σ (done r t) x e h = let i : t.calls < more = subst (λ (z : Out (Result × Store)). calls_left z < more) (sym e) h in omega (arith, i)

  pub ten : (s : State) → (ran ω bytes sheet).0 ≡ failed (Refused 10) s → (more : ℕ) → 0 < more → maximum_calls < calls_made (maximum_calls + more) (run_with ω bytes maximum_properties (sheet_of sheet) (maximum_calls + more)).0
  unfolding ran
  ten s e more p = of_shift ((perform-richer maximum_calls (maximum_calls + more) (omega arith) (context_of ω) (asked bytes)).shifted more from (le_refl _) (le_refl _)) (joined-failed _ _ _ _ e) refl
    where
      of_shift : {x y : Out (Result × Store)} → Shifted more maximum_calls x y → x ≡ failed (Refused 10) s
          → joined (run_with ω bytes maximum_properties (sheet_of sheet) (maximum_calls + more)).1 (run_with ω bytes maximum_properties (sheet_of sheet) (maximum_calls + more)).0 ≡ y
          → maximum_calls < calls_made (maximum_calls + more) (run_with ω bytes maximum_properties (sheet_of sheet) (maximum_calls + more)).0
      of_shift (Shifted.done h) g j = absurd (false≢true cc)
      of_shift (Shifted.failed {f = f} h) g j = let i : f ≡ Refused 10 = cc in absurd (not-suc-le-zero (subst (λ (n : ℕ). 0 < n) (h (ap is_ten i)) p))
      of_shift (Shifted.exhausted {o = o} q h) g j = made_more more (run_with ω bytes maximum_properties (sheet_of sheet) (maximum_calls + more)).1 (run_with ω bytes maximum_properties (sheet_of sheet) (maximum_calls + more)).0 o j h
