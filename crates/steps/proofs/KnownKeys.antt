-- In every world of a list of calls, the number of each own key has at most three digits. Assumes nothing.
use Rattle.std.specs.Prelude.{Option, None, Some}
use Prim.Native.Nat.{ℕ, zero, suc, ◌≤◌, ◌<◌, zero-le}
use native.Mathlib.Nat.{le_trans}
use native.Mathlib.Omega.{arith}
use mathlib.Core.Path.{◌≡◌, refl, subst}
use mathlib.Core.Bool.{Bool, true, false, cond, false≢true}
use mathlib.Core.List.{List, [], ◌∷◌, ◌++◌}
use lib.Dec.{eqb, leb, ltb}
use lib.ListN.{length, length-append}
use borrow.Author.Tests.{ltb-true}
use Rattle.value.specs.declared.Value.{Value}
use Rattle.value.specs.declared.Value.TheVariants as value
use Rattle.value.specs.declared.PropertyKey.{PropertyKey}
use Rattle.value.specs.PropertyKey.{key_number, key_of}
use Rattle.value.specs.Words.{pick}
use Rattle.value.proofs.Bools.{and-true}
use Rattle.property.specs.declared.Property.{Property}
use Rattle.text.specs.Strings.{Entry, refused, entered, maximum_length, maximum_strings, number_of, entering, enter}
use Rattle.store.specs.declared.Object.{Object}
use Rattle.store.specs.declared.Object.TheVariants.{Ordinary, Proxy}
use Rattle.store.specs.Store.{Store, World, empty, lookup, own, find}
use Rattle.internal_methods.specs.Monad.{State, Out, M}
use Rattle.internal_methods.specs.Methods.{Context, Written}
use Rattle.internal_methods.specs.Internal.{methods}
use Rattle.internal_methods.proofs.Ensures.{Ensures, ensures-pure, ensures-fails, ensures-bind, ensures-if, ensures-then, ensures-all, ensures-both, ensures-weaken}
use Rattle.internal_methods.proofs.Base.{Shut}
use Rattle.internal_methods.proofs.Later.{held-remains, shut-lasts}
use Rattle.internal_methods.proofs.Reports.{prevent_extensions-report, define_own_property-report}
use Rattle.internal_methods.proofs.AddedKeys.{OwnKeys, addable-key, addable-shut, keys-put, keys-add, keys-released, set_prototype_of-keys, prevent_extensions-keys, define_own_property-keys, set-keys, delete-keys}
use Rattle.record.specs.declared.Step.{Step}
use Rattle.record.specs.Tests.{is_known, first_failing}
use Rattle.record.specs.Step.{step_of, step_passes, are_kinds_usable}
use Rattle.steps.specs.Operation.{Level, Operation, set_integrity_level, key_or_first, operation_of, asked}
use Rattle.steps.specs.Sequence.{Ran, written}
use Rattle.steps.specs.Perform.{Result, keys, own_result, boolean, once, in_turn, reading, writing, make, revoked, over, maximum_calls, perform}
use Rattle.steps.specs.Response.{Effect}
use Rattle.steps.specs.Step.{counts_of, context_of, record_tests, with_store, ran}
use Rattle.steps.specs.StringEntry.{enter_string}
use Rattle.steps.specs.StringEntry as entry
use Rattle.steps.specs.Run.{Call, effect, world_from, world_at}
use Rattle.steps.specs.Run as call
use Rattle.steps.proofs.Steps.{Ends, inadmissible, refuses, errs, throws, leaves, short, results, ends}
use Rattle.steps.proofs.Sequences.{Led, leads-pure, leads-bind, Integral, meets-ensured, set-leads}
use Rattle.steps.proofs.Made.{passed}
use Rattle.steps.proofs.Pages.{page-leaves}

-- every own key has a number that three digits show: strings are entered, and symbols are at most 255
pub record KnownKeys (ω : World) : Type 0 where
  pub strings : length ω.strings ≤ maximum_strings
  pub keys : (o : ℕ) (k : PropertyKey) (p : Property) → own ω.store o k ≡ Some p → key_number k < 256

-- Operations ----------------------------------------------------------------------------

either : {A : Type 0} (P : A → Type 0) (b : Bool) {x y : A} → P x → P y → P (pick b x y)
either P true f g = f
either P false f g = g

module _ {P : PropertyKey → Type 0} (n : ℕ) (c : Context) (h : OwnKeys P c.store) where
  abbrev Kept : Operation → Type 0
  Kept asks = (s : State) → OwnKeys P ((perform n c asks).run s).1

  -- a run that writes at most once
  once-keys : (m : M (Result × Store)) → Ensures m (λ a. OwnKeys P a.1) → (s : State) → OwnKeys P ((once c.store m).run s).1
  unfolding once
  once-keys m e s = go (m.run s) refl
    where
      go : (x : Out (Result × Store)) → m.run s ≡ x → OwnKeys P (written c.store x).1
      go (Out.failed f t) i = h
      go (Out.done a t) i = e.at s a t i

  reads : {A : Type 0} (result : A → Result) (m : M A) (s : State) → OwnKeys P ((once c.store (reading c.store result m)).run s).1
  reads result m = once-keys _ (ensures-then m (λ a. ensures-pure _ h))

  writes : (m : M Written) → Ensures m (λ a. OwnKeys P a.1) → (s : State) → OwnKeys P ((once c.store (writing m)).run s).1
  writes m e = once-keys _ (ensures-bind e (λ a k. ensures-pure _ k))

  makes : (x : Object) (b : Bool) (s : State) → OwnKeys P ((once c.store (make c.store x b)).run s).1
  unfolding make
  makes x b = once-keys _ (ensures-if _ (λ _. ensures-pure _ (keys-add c.store x b h)) (λ _. ensures-fails _))

  revokes : (o : ℕ) (x : Option Object) → OwnKeys P (revoked c.store o x)
  revokes o None = h
  revokes o (Some (Ordinary r)) = h
  revokes o (Some (Proxy p)) = keys-put c.store o _ h

  -- 7.3.15: the object is not extensible before its keys are defined, whatever they are
  integral : (o : ℕ) → Integral (λ σ. methods n (over c σ)) o (OwnKeys P) (λ σ. OwnKeys P σ × Shut σ o) (λ f. OwnKeys P)
  integral o = record {
    prevents = λ σ p. meets-ensured (ensures-weaken (ensures-both (prevent_extensions-keys (over c σ) p n o) (prevent_extensions-report n (over c σ) o)) (λ w q. (λ t. (q.0, q.1.says t), λ _. q.0))) (λ _. p);
    lists = λ σ i. meets-ensured (ensures-all _ (λ _. tt)) (λ _. i.0);
    tells = λ σ i k. meets-ensured (ensures-all _ (λ _. tt)) (λ _. i.0);
    defines = λ σ i k d. meets-ensured (ensures-weaken (ensures-both (define_own_property-keys (over c σ) i.0 n o k d (addable-shut k i.1)) (define_own_property-report n (over c σ) o k d)) (λ w q. (q.0, shut-lasts (held-remains q.1.remains) i.1))) (λ _. i.0);
    rejects = λ σ i. i.0;
  }

  sets : (o : ℕ) (level : Level) → Kept (set_integrity_level o level)
  unfolding perform in_turn
  sets o level s = go ((leads-bind (set-leads (integral o) level) (λ b. leads-pure (boolean b) (λ σ q. by σ b q))).from c.store h s)
    where
      by : (τ : Store) (b : Bool) → (b ≡ true → OwnKeys P τ × Shut τ o) × (b ≡ false → OwnKeys P τ) → OwnKeys P τ
      by τ true q = (q.0 refl).0
      by τ false q = q.1 refl

      go : {x : Out Result} {τ : Store} → Led (λ r. OwnKeys P) (λ f. OwnKeys P) x τ → OwnKeys P τ
      go (Led.failed e) = e
      go (Led.done e) = e

  -- the step's own key is the only one that may be added
  perform-keys : (asks : Step) → P (key_or_first (key_of asks.key)) → Kept (operation_of asks)
  unfolding perform operation_of
  perform-keys asks m =
      let o = asks.object in
      let k = key_or_first (key_of asks.key) in
      either Kept (eqb asks.code 1) (makes _ _)
      (either Kept (eqb asks.code 2) (makes _ _)
      (either Kept (eqb asks.code 3) (once-keys _ (ensures-pure _ (revokes o (lookup c.store o))))
      (either Kept (eqb asks.code 4) (reads _ _)
      (either Kept (eqb asks.code 5) (writes _ (set_prototype_of-keys c h n o asks.value))
      (either Kept (eqb asks.code 6) (reads boolean _)
      (either Kept (eqb asks.code 7) (writes _ (prevent_extensions-keys c h n o))
      (either Kept (eqb asks.code 8) (reads own_result _)
      (either Kept (eqb asks.code 9) (writes _ (define_own_property-keys c h n o k _ (addable-key m)))
      (either Kept (eqb asks.code 10) (reads boolean _)
      (either Kept (eqb asks.code 11) (reads _ _)
      (either Kept (eqb asks.code 12) (writes _ (set-keys c h k m n o asks.value asks.receiver))
      (either Kept (eqb asks.code 13) (writes _ (delete-keys c h n o k))
      (either Kept (eqb asks.code 14) (reads keys _)
      (either Kept (eqb asks.code 16) (makes _ _)
      (either Kept (eqb asks.code 17) (once-keys _ (ensures-pure _ (keys-released c.store o h)))
      (either Kept (eqb asks.code 18) (sets o _)
      (reads boolean _)))))))))))))))))

-- Calls ---------------------------------------------------------------------------------

abbrev Known : PropertyKey → Type 0
Known k = key_number k < 256

key-known : (ω : World) → length ω.strings ≤ maximum_strings → (v : Value) → is_known (counts_of ω) v ≡ true → Known (key_or_first (key_of v))
unfolding is_known
key-known ω l value.Undefined h = omega arith
key-known ω l value.Null h = omega arith
key-known ω l (value.Boolean b) h = omega arith
key-known ω l (value.Integer32 n) h = omega arith
key-known ω l (value.Float64 x) h = omega arith
key-known ω l (value.String s) h = le_trans (ltb-true s _ h) l
key-known ω l (value.Symbol s) h = ltb-true s 256 h
key-known ω l (value.Object o) h = omega arith
key-known ω l (value.Function f) h = omega arith

module _ (ω : World) (h : KnownKeys ω) where
  module _ (bytes sheet output : List ℕ) where
    ran-known : first_failing (record_tests ω bytes sheet) ≡ None → OwnKeys Known (ran ω bytes sheet).1
    unfolding ran asked are_kinds_usable
    ran-known p =
        let (_, p₁) = passed _ _ _ p in
        let (_, p₂) = passed _ _ _ p₁ in
        let (usable, _) = passed _ _ _ p₂ in
        let (values, _) = and-true (step_passes (is_known (counts_of ω)) (step_of bytes)) _ usable in
        let (key, _) = and-true (is_known (counts_of ω) (step_of bytes).key) _ values in
        perform-keys maximum_calls (context_of ω) (record { holds = h.keys }) (step_of bytes) (key-known ω h.strings (step_of bytes).key key) _

    -- the store that a run left, with the same strings
    left-known : {x : Out Result} {σ : Store} → first_failing (record_tests ω bytes sheet) ≡ None → ran ω bytes sheet ≡ (x, σ) → KnownKeys (with_store ω σ)
    left-known p e = record { strings = h.strings; keys = (subst (λ (x : Ran Result). OwnKeys Known x.1) e (ran-known p)).holds }

    step-known : {x : Effect} → Ends ω bytes sheet output x → KnownKeys x.world
    step-known (inadmissible p) = h
    step-known (refuses p e) = h
    step-known (errs p e u) = left-known p e
    step-known (throws p e u) = left-known p e
    step-known (leaves p e) = h
    step-known (short p e u q) = h
    step-known (results p e u q) = left-known p e

  -- an entry leaves at most 256 strings
  abbrev Few : Entry → Type 0
  Few (refused n) = Unit {0}
  Few (entered n strings) = length strings ≤ maximum_strings

  enter-few : (units : List ℕ) → Few (enter ω.strings units)
  unfolding enter
  enter-few units = by_length (leb (length units) maximum_length)
    where
      by-room : (b : Bool) → ltb (length ω.strings) maximum_strings ≡ b → Few (cond b (entered (length ω.strings) (ω.strings ++ (units ∷ []))) (refused 7))
      by-room true e = omega (arith, ltb-true (length ω.strings) maximum_strings e, length-append ω.strings (units ∷ []))
      by-room false e = tt

      by_number : (x : Option ℕ) → Few (entering ω.strings units x)
      by_number (Some n) = h.strings
      by_number None = by-room _ refl

      by_length : (b : Bool) → Few (cond b (entering ω.strings units (number_of ω.strings units)) (refused 3))
      by_length true = by_number (number_of ω.strings units)
      by_length false = tt

  entry_known : (x : Entry) → Few x → KnownKeys (entry.entered ω x).world
  entry_known (refused n) l = h
  entry_known (entered n strings) l = record { strings = l; keys = h.keys }

  effect-known : (c : Call) → KnownKeys (effect ω c).world
  unfolding effect enter_string
  effect-known (call.step bytes sheet output) = step-known bytes sheet output (ends ω bytes sheet output)
  effect-known (call.enter units) = entry_known (enter ω.strings units) (enter-few units)
  effect-known (call.page o output) = rw (page-leaves ω o output) h

known-empty : KnownKeys empty
unfolding own find
known-empty = record { strings = zero-le; keys = λ o k p e. absurd (false≢true cc) }

known_from : (ω : World) (cs : List Call) (i : ℕ) → KnownKeys ω → KnownKeys (world_from ω cs i)
unfolding world_from
known_from ω cs zero h = h
known_from ω [] (suc i) h = h
known_from ω (c ∷ cs) (suc i) h = known_from (effect ω c).world cs i (effect-known ω h c)

pub known_at : (calls : List Call) (i : ℕ) → KnownKeys (world_at calls i)
known_at calls i = known_from empty calls i known-empty
