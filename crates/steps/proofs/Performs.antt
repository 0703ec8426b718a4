-- How the run of an operation can end, that it leaves no object unmade behind, and that its depth does not matter. Assumes nothing.
use Rattle.std.specs.Prelude.{Option, None, Some}
use Prim.Native.Nat.{ℕ, ◌≤◌, ◌<◌}
use native.Mathlib.Nat.{le_refl, le_trans}
use mathlib.Core.Path.{◌≡◌, refl, sym, ap, ◌∙◌, subst}
use mathlib.Core.Bool.{Bool, true, false, not, false≢true, true≢false}
use mathlib.Core.List.{List, [], ◌∷◌}
use lib.Dec.{ltb}
use borrow.Author.Tests.{ltb-true}
use Rattle.value.specs.declared.PropertyKey.{PropertyKey}
use Rattle.property.specs.declared.PropertyDescriptor.{PropertyDescriptor}
use Rattle.property.specs.declared.Property.{Property}
use Rattle.property.specs.declared.Property.TheVariants.{Data, Accessor}
use Rattle.store.specs.declared.Object.{Object}
use Rattle.store.specs.declared.Object.TheVariants.{Ordinary, Proxy}
use Rattle.store.specs.Store.{Store, lookup, add, next_number, live_count, named, maximum_objects}
use Rattle.store.proofs.StoreLaws.{Fresh}
use Rattle.internal_methods.specs.declared.Failure.{Failure}
use Rattle.internal_methods.specs.declared.Failure.TheVariants.{Refused, TypeError}
use Rattle.internal_methods.specs.Monad.{State, Out, M, pure, fails, when◌then◌else◌}
use Rattle.internal_methods.specs.Methods.{Context, Methods, Written}
use Rattle.internal_methods.specs.Internal.{methods}
use Rattle.internal_methods.proofs.Walk.{Any}
use Rattle.internal_methods.proofs.StoreClosed.{Made, MadeObject, MadeDescriptor, Closed, closed-put, closed-add, closed-released}
use Rattle.internal_methods.proofs.Budget.{MadeAnswers, Met, Agree, Steady, KeptBy, steady-pure, steady-weaken, steady-bind, steady-above, ends-alike, ends-failed, ends-done}
use Rattle.steps.specs.Operation.{Level, sealed, frozen, Operation, make_object, make_proxy, revoke, get_prototype_of, set_prototype_of, is_extensible, prevent_extensions, get_own_property, define_own_property, has_property, get, set, delete, own_property_keys, make_function, release, set_integrity_level, test_integrity_level}
use Rattle.steps.specs.Sequence.{Ran, Sequence, written, throw_if, for_each, giving}
use Rattle.steps.specs.Sequence as sequence
use Rattle.steps.specs.SetIntegrityLevel.{sealed_descriptor, frozen_descriptor, define_property_or_throw, freeze_property, turn}
use Rattle.steps.specs.SetIntegrityLevel
use Rattle.steps.specs.TestIntegrityLevel.{is_loose, test_properties}
use Rattle.steps.specs.TestIntegrityLevel
use Rattle.steps.specs.Perform.{Result, value, keys, own_result, boolean, Run, once, in_turn, reading, writing, make, revoked, over, perform}
use Rattle.steps.proofs.Made.{MadeOperation, answers-kept}

-- what making an object gives
abbrev added : Store → Object → Bool → Result × Store
added σ x b = (value (named b (next_number σ)), add σ x b)

-- how an operation can fail: there are 32 objects, as a method can over a store on the way, or as a definition that is rejected
pub data Fails (c : Context) : Failure → State → Type 0 where
  crowded : {t : State} → ltb (live_count c.store) maximum_objects ≡ false → Fails c (Refused 7) t
  method : {f : Failure} {t : State} (τ : Store) → Met (over c τ) f t → Fails c f t
  rejected : {t : State} → Fails c (TypeError 32) t

-- with at most n calls left, at any depth from n on
pub record Performs (c : Context) (n : ℕ) (asks : Operation) : Type 0 where
  pub alike : (m m' : ℕ) → n ≤ m → n ≤ m' → (s : State) → s.calls ≤ n → MadeAnswers c.store s.answers → (perform m c asks).run s ≡ (perform m' c asks).run s
  pub fails : (s t : State) (f : Failure) → s.calls ≤ n → MadeAnswers c.store s.answers → ((perform n c asks).run s).0 ≡ Out.failed f t → Fails c f t
  pub closes : (s : State) → s.calls ≤ n → MadeAnswers c.store s.answers → Closed ((perform n c asks).run s).1

-- what was written, by how the method ended
failed-written : (σ : Store) (x : Out (Result × Store)) (f : Failure) (t : State) → (written σ x).0 ≡ Out.failed f t → x ≡ Out.failed f t
failed-written σ (Out.failed g s) f t e = let p : g ≡ f = cc in let q : s ≡ t = cc in rw (p, q)
failed-written σ (Out.done a s) f t e = absurd (false≢true cc)

written-closed : (σ : Store) → Closed σ → (x : Out (Result × Store)) → ((a : Result × Store) (t : State) → x ≡ Out.done a t → Closed a.1) → Closed (written σ x).1
written-closed σ h (Out.failed f t) g = h
written-closed σ h (Out.done a t) g = g a t refl

-- What writes as it goes -----------------------------------------------------------------------

-- two runs from s end alike, over a store that is closed and has the object o
data AgreeRan (c : Context) (o : ℕ) (s : State) {A : Type 0} : Ran A → Ran A → Type 0 where
  done : {a : A} {t : State} {τ : Store} → Closed τ → Made τ o → t.calls ≤ s.calls → MadeAnswers τ t.answers → AgreeRan c o s (Out.done a t, τ) (Out.done a t, τ)
  failed : {f : Failure} {t : State} {τ : Store} → Closed τ → Fails c f t → AgreeRan c o s (Out.failed f t, τ) (Out.failed f t, τ)

record SteadySequence (c : Context) (n o : ℕ) {A : Type 0} (m m' : Sequence A) : Type 0 where
  runs : (σ : Store) → Closed σ → Made σ o → (s : State) → s.calls ≤ n → MadeAnswers σ s.answers → AgreeRan c o s (m.run σ s) (m'.run σ s)

module _ {c : Context} {o : ℕ} {s : State} {A : Type 0} where
  agree-alike : {x y : Ran A} → AgreeRan c o s x y → x ≡ y
  agree-alike (done h m le ms) = refl
  agree-alike (failed h m) = refl

  agree-failed : {x y : Ran A} → AgreeRan c o s x y → (f : Failure) (t : State) → x.0 ≡ Out.failed f t → Fails c f t
  agree-failed (done h m le ms) f t e = absurd (false≢true cc)
  agree-failed (failed {f = g} {t = u} h m) f t e = let p : g ≡ f = cc in let q : u ≡ t = cc in subst (λ (y : Failure). Fails c y t) p (subst (λ (y : State). Fails c g y) q m)

  agree-closed : {x y : Ran A} → AgreeRan c o s x y → Closed x.1
  agree-closed (done h m le ms) = h
  agree-closed (failed h m) = h

  agree-before : {t : State} {x y : Ran A} → s.calls ≤ t.calls → AgreeRan c o s x y → AgreeRan c o t x y
  agree-before i (done h m le ms) = done h m (le_trans le i) ms
  agree-before i (failed h m) = failed h m

module _ {c : Context} {n o : ℕ} where
  steady-sequence-pure : {A : Type 0} (a : A) → SteadySequence c n o (sequence.pure a) (sequence.pure a)
  unfolding sequence.pure
  steady-sequence-pure a = record { runs = λ σ h m s le ms. done h m (le_refl _) ms }

  steady-sequence-throw_if : (b : Bool) → SteadySequence c n o (throw_if 32 b) (throw_if 32 b)
  unfolding throw_if sequence.fails
  steady-sequence-throw_if true = record { runs = λ σ h m s le ms. failed h rejected }
  steady-sequence-throw_if false = steady-sequence-pure tt

  steady-sequence-reads : {A : Type 0} {Q : A → Type 0} {m m' : Store → M A} → ((σ : Store) → Closed σ → Made σ o → Steady (over c σ) n (m σ) (m' σ) Q) → SteadySequence c n o (sequence.reads m) (sequence.reads m')
  unfolding sequence.reads
  steady-sequence-reads {A} {Q} f = record { runs = λ σ h m s le ms. go σ s h m ((f σ h m).runs s le ms) }
    where
      go : (σ : Store) (s : State) → Closed σ → Made σ o → {x y : Out A} → Agree (over c σ) s Q x y → AgreeRan c o s (x, σ) (y, σ)
      go σ s h m (Agree.done q le ms) = done h m le ms
      go σ s h m (Agree.failed e) = failed h (method σ e)

  steady-sequence-writes : {m m' : Store → M Written} → ((σ : Store) → Closed σ → Made σ o → Steady (over c σ) n (m σ) (m' σ) (KeptBy (over c σ))) → SteadySequence c n o (sequence.writes m) (sequence.writes m')
  unfolding sequence.writes
  steady-sequence-writes f = record { runs = λ σ h m s le ms. go σ s h m ((f σ h m).runs s le ms) }
    where
      go : (σ : Store) (s : State) → Closed σ → Made σ o → {x y : Out Written} → Agree (over c σ) s (KeptBy (over c σ)) x y → AgreeRan c o s (written σ x) (written σ y)
      go σ s h m (Agree.done {a} q le ms) = done q.closed (q.keeps o m) le (answers-kept σ a.1 q.keeps ms)
      go σ s h m (Agree.failed e) = failed h (method σ e)

  steady-sequence-bind : {A B : Type 0} {m m' : Sequence A} {k k' : A → Sequence B} → SteadySequence c n o m m' → ((a : A) → SteadySequence c n o (k a) (k' a)) → SteadySequence c n o (sequence.◌>>=◌ m k) (sequence.◌>>=◌ m' k')
  unfolding sequence.◌>>=◌ sequence.next
  steady-sequence-bind {A} {B} {m} {m'} {k} {k'} f g = record { runs = λ σ h o s le ms. go s le (f.runs σ h o s le ms) }
    where
      go : (s : State) → s.calls ≤ n → {x y : Ran A} → AgreeRan c o s x y → AgreeRan c o s (sequence.next k x.0 x.1) (sequence.next k' y.0 y.1)
      go s le (done {a} {t} {τ} h m i ms) = agree-before i ((g a).runs τ h m t (le_trans i le) ms)
      go s le (failed h e) = failed h e

  steady-sequence-if : {A : Type 0} {m m' k k' : Sequence A} (b : Bool) → SteadySequence c n o m m' → SteadySequence c n o k k' → SteadySequence c n o (sequence.when◌then◌else◌ b m k) (sequence.when◌then◌else◌ b m' k')
  unfolding sequence.when◌then◌else◌
  steady-sequence-if true f g = f
  steady-sequence-if false f g = g

module _ (c : Context) (n o d d' : ℕ) (i : n ≤ d) (i' : n ≤ d') where
  abbrev call : Store → Methods
  call σ = methods d (over c σ)

  abbrev call' : Store → Methods
  call' σ = methods d' (over c σ)

  define-steady : (k : PropertyKey) (p : PropertyDescriptor) → ((σ : Store) → MadeDescriptor σ p) → SteadySequence c n o (define_property_or_throw call o k p) (define_property_or_throw call' o k p)
  unfolding define_property_or_throw
  define-steady k p made = steady-sequence-bind (steady-sequence-writes (λ σ h m. (steady-above n d d' i i' (over c σ) h).define_own_property o k p m (made σ))) (λ b. steady-sequence-throw_if (not b))

  -- their descriptors have no value
  sealing : (σ : Store) → MadeDescriptor σ sealed_descriptor
  sealing σ = record { value = λ v e. absurd (false≢true cc); get = λ v e. absurd (false≢true cc); set = λ v e. absurd (false≢true cc) }

  freezing : (p : Property) (σ : Store) → MadeDescriptor σ (frozen_descriptor p)
  freezing (Accessor g s e c) σ = sealing σ
  freezing (Data v w e c) σ = record { value = λ v e. absurd (false≢true cc); get = λ v e. absurd (false≢true cc); set = λ v e. absurd (false≢true cc) }

  turn-steady : (level : Level) (k : PropertyKey) → SteadySequence c n o (turn call o level k) (turn call' o level k)
  unfolding turn freeze_property
  turn-steady sealed k = define-steady k _ sealing
  turn-steady frozen k = steady-sequence-bind (steady-sequence-reads {Q = Any} (λ σ h m. steady-weaken (λ _ _. tt) ((steady-above n d d' i i' (over c σ) h).get_own_property o k m))) (elim [
    | None ↦ steady-sequence-pure tt
    | Some p ↦ define-steady k _ (freezing p)
  ])

  turns-steady : (level : Level) (ks : List PropertyKey) → SteadySequence c n o (for_each (turn call o level) ks) (for_each (turn call' o level) ks)
  unfolding for_each
  turns-steady level [] = steady-sequence-pure tt
  turns-steady level (k ∷ ks) = steady-sequence-bind (turn-steady level k) (λ _. turns-steady level ks)

  set-steady : (level : Level) → SteadySequence c n o (SetIntegrityLevel.set_integrity_level call o level) (SetIntegrityLevel.set_integrity_level call' o level)
  unfolding SetIntegrityLevel.set_integrity_level
  set-steady level = steady-sequence-bind (steady-sequence-writes (λ σ h m. (steady-above n d d' i i' (over c σ) h).prevent_extensions o m)) (λ b. steady-sequence-if (not b)
      (steady-sequence-pure false)
      (steady-sequence-bind (steady-sequence-reads (λ σ h m. (steady-above n d d' i i' (over c σ) h).own_property_keys o m)) (λ ks.
      steady-sequence-bind (turns-steady level ks) (λ _. steady-sequence-pure true))))

-- Operations -----------------------------------------------------------------------------------

module _ (c : Context) (n : ℕ) (closed : Closed c.store) (fresh : live_count c.store < maximum_objects → Fresh c.store) where
  -- an operation that runs a method
  by-method : (asks : Operation) (m : ℕ → M (Result × Store)) → ((d : ℕ) → perform d c asks ≡ once c.store (m d))
      → ((d d' : ℕ) → n ≤ d → n ≤ d' → Steady c n (m d) (m d') (λ a. Closed a.1)) → Performs c n asks
  unfolding once
  by-method asks m is h = record {
    alike = λ d d' i i' s le ms. ap (λ (r : Run). r.run s) (is d) ∙ (ap (written c.store) (ends-alike (h d d' i i') s le ms) ∙ ap (λ (r : Run). r.run s) (sym (is d')));
    fails = λ s t f le ms e. method c.store (ends-failed (h n n (le_refl n) (le_refl n)) s le ms f t
        (failed-written c.store ((m n).run s) f t (ap (λ (r : Run). (r.run s).0) (sym (is n)) ∙ e)));
    closes = λ s le ms. subst (λ (r : Run). Closed (r.run s).1) (sym (is n))
        (written-closed c.store closed ((m n).run s) (λ a t e. (ends-done (h n n (le_refl n) (le_refl n)) s le ms a t e).0));
  }

  reads : {A : Type 0} {Q : A → Type 0} (result : A → Result) {m m' : M A} → Steady c n m m' Q → Steady c n (reading c.store result m) (reading c.store result m') (λ a. Closed a.1)
  reads result h = steady-bind h (λ a _. steady-pure _ closed)

  writes : {m m' : M Written} → Steady c n m m' (KeptBy c) → Steady c n (writing m) (writing m') (λ a. Closed a.1)
  writes h = steady-bind h (λ a k. steady-pure _ k.closed)

  -- an operation that makes an object
  making : (asks : Operation) (x : Object) (b : Bool) → MadeObject c.store x → ((d : ℕ) → perform d c asks ≡ once c.store (make c.store x b)) → Performs c n asks
  unfolding once make when◌then◌else◌ pure fails
  making asks x b m is = record {
    alike = λ d d' i i' s le ms. ap (λ (r : Run). r.run s) (is d ∙ sym (is d'));
    fails = λ s t f le ms e. failing (ltb (live_count c.store) maximum_objects) refl s t f (ap (λ (r : Run). (r.run s).0) (sym (is n)) ∙ e);
    closes = λ s le ms. subst (λ (r : Run). Closed (r.run s).1) (sym (is n)) (closing (ltb (live_count c.store) maximum_objects) refl s);
  }
    where
      failing : (room : Bool) → ltb (live_count c.store) maximum_objects ≡ room → (s t : State) (f : Failure)
          → (written c.store ((when◌then◌else◌ room (pure (added c.store x b)) (fails (Refused 7))).run s)).0 ≡ Out.failed f t → Fails c f t
      failing true q s t f e = absurd (false≢true cc)
      failing false q s t f e = let g : Refused 7 ≡ f = cc in subst (λ (y : Failure). Fails c y t) g (crowded q)

      closing : (room : Bool) → ltb (live_count c.store) maximum_objects ≡ room → (s : State) → Closed (written c.store ((when◌then◌else◌ room (pure (added c.store x b)) (fails (Refused 7))).run s)).1
      closing true q s = closed-add c.store (fresh (ltb-true _ _ q)) x b closed m
      closing false q s = closed

  revoked-closed : (o : ℕ) (x : Option Object) → lookup c.store o ≡ x → Closed (revoked c.store o x)
  revoked-closed o None e = closed
  revoked-closed o (Some (Ordinary r)) e = closed
  revoked-closed o (Some (Proxy p)) e = closed-put c.store o _ closed (λ h. absurd (true≢false h))

  -- 7.3.16
  steady-if : {m m' k k' : M Bool} (b : Bool) → Steady c n m m' Any → Steady c n k k' Any → Steady c n (when◌then◌else◌ b m k) (when◌then◌else◌ b m' k') Any
  unfolding when◌then◌else◌
  steady-if true f g = f
  steady-if false f g = g

  module _ (o : ℕ) (m : Made c.store o) (level : Level) (d d' : ℕ) (i : n ≤ d) (i' : n ≤ d') where
    tests-steady : (ks : List PropertyKey) → Steady c n (test_properties (methods d c) o level ks) (test_properties (methods d' c) o level ks) Any
    unfolding test_properties
    tests-steady [] = steady-pure _ tt
    tests-steady (k ∷ ks) = steady-bind ((steady-above n d d' i i' c closed).get_own_property o k m) (λ p _. steady-if (is_loose level p) (steady-pure _ tt) (tests-steady ks))

    test-steady : Steady c n (TestIntegrityLevel.test_integrity_level (methods d c) o level) (TestIntegrityLevel.test_integrity_level (methods d' c) o level) Any
    unfolding TestIntegrityLevel.test_integrity_level
    test-steady = steady-bind ((steady-above n d d' i i' c closed).is_extensible o m) (λ x _. steady-if x (steady-pure _ tt)
        (steady-bind ((steady-above n d d' i i' c closed).own_property_keys o m) (λ ks _. tests-steady ks)))

  -- 7.3.15
  setting : (o : ℕ) → Made c.store o → (level : Level) → Performs c n (set_integrity_level o level)
  unfolding perform in_turn
  setting o m level = record {
    alike = λ d d' i i' s le ms. agree-alike ((runs d d' i i').runs c.store closed m s le ms);
    fails = λ s t f le ms e. agree-failed ((runs n n (le_refl n) (le_refl n)).runs c.store closed m s le ms) f t e;
    closes = λ s le ms. agree-closed ((runs n n (le_refl n) (le_refl n)).runs c.store closed m s le ms);
  }
    where
      runs : (d d' : ℕ) → n ≤ d → n ≤ d' → SteadySequence c n o (giving boolean (SetIntegrityLevel.set_integrity_level (λ σ. methods d (over c σ)) o level)) (giving boolean (SetIntegrityLevel.set_integrity_level (λ σ. methods d' (over c σ)) o level))
      runs d d' i i' = steady-sequence-bind (set-steady c n o d d' i i' level) (λ b. steady-sequence-pure (boolean b))

  pub performs : (asks : Operation) → MadeOperation c.store asks → Performs c n asks
  unfolding perform
  performs (make_object v) m = making (make_object v) _ _ m (λ d. refl)
  performs (make_proxy o traps) m = making (make_proxy o traps) _ _ (λ _. m) (λ d. refl)
  performs (revoke o) m = by-method (revoke o) _ (λ d. refl) (λ d d' i i'. steady-pure _ (revoked-closed o (lookup c.store o) refl))
  performs (get_prototype_of o) m = by-method (get_prototype_of o) _ (λ d. refl) (λ d d' i i'. reads value ((steady-above n d d' i i' c closed).get_prototype_of o m))
  performs (set_prototype_of o v) m = by-method (set_prototype_of o v) _ (λ d. refl) (λ d d' i i'. writes ((steady-above n d d' i i' c closed).set_prototype_of o v m.0 m.1))
  performs (is_extensible o) m = by-method (is_extensible o) _ (λ d. refl) (λ d d' i i'. reads boolean ((steady-above n d d' i i' c closed).is_extensible o m))
  performs (prevent_extensions o) m = by-method (prevent_extensions o) _ (λ d. refl) (λ d d' i i'. writes ((steady-above n d d' i i' c closed).prevent_extensions o m))
  performs (get_own_property o k) m = by-method (get_own_property o k) _ (λ d. refl) (λ d d' i i'. reads own_result ((steady-above n d d' i i' c closed).get_own_property o k m))
  performs (define_own_property o k p) m = by-method (define_own_property o k p) _ (λ d. refl) (λ d d' i i'. writes ((steady-above n d d' i i' c closed).define_own_property o k p m.0 m.1))
  performs (has_property o k) m = by-method (has_property o k) _ (λ d. refl) (λ d d' i i'. reads boolean ((steady-above n d d' i i' c closed).has_property o k m))
  performs (get o k receiver) m = by-method (get o k receiver) _ (λ d. refl) (λ d d' i i'. reads value ((steady-above n d d' i i' c closed).get o k receiver m))
  performs (set o k v receiver) m = by-method (set o k v receiver) _ (λ d. refl) (λ d d' i i'. writes ((steady-above n d d' i i' c closed).set o k v receiver m.0 m.1 m.2))
  performs (delete o k) m = by-method (delete o k) _ (λ d. refl) (λ d d' i i'. writes ((steady-above n d d' i i' c closed).delete o k m))
  performs (own_property_keys o) m = by-method (own_property_keys o) _ (λ d. refl) (λ d d' i i'. reads keys ((steady-above n d d' i i' c closed).own_property_keys o m))
  performs (make_function v) m = making (make_function v) _ _ m (λ d. refl)
  performs (release o) m = by-method (release o) _ (λ d. refl) (λ d d' i i'. steady-pure _ (closed-released c.store o closed m.1))
  performs (set_integrity_level o level) m = setting o m level
  performs (test_integrity_level o level) m = by-method (test_integrity_level o level) _ (λ d. refl) (λ d d' i i'. reads boolean (test-steady o m level d d' i i'))
