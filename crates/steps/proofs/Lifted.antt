-- What is related of the methods is related of the operations: longer sheets, answers that cannot be read, larger budgets, room for one more. Assumes nothing.
use Rattle.std.specs.Prelude.{Option, None, Some}
use Prim.Native.Nat.{ℕ, suc, ◌≤◌}
use native.Mathlib.Nat.{le_refl}
use mathlib.Core.Path.{◌≡◌, refl, sym, subst}
use mathlib.Core.Bool.{Bool, true, false, not, false≢true}
use mathlib.Core.List.{List, [], ◌∷◌}
use lib.Dec.{ltb}
use lib.ListN.{length}
use Rattle.value.specs.declared.PropertyKey.{PropertyKey}
use Rattle.property.specs.declared.PropertyDescriptor.{PropertyDescriptor}
use Rattle.store.specs.declared.Object.{Object}
use Rattle.store.specs.declared.Object.TheVariants.{Ordinary, Proxy}
use Rattle.store.specs.Store.{Store, lookup, put, add, next_number, live_count, named, maximum_objects}
use Rattle.store.proofs.ReleaseLaws.{released-fewer}
use Rattle.internal_methods.specs.declared.Failure.{Failure}
use Rattle.internal_methods.specs.declared.Failure.TheVariants.{Refused, TypeError}
use Rattle.internal_methods.specs.Monad.{State, Out, M, pure, fails, next, ◌>>=◌, when◌then◌else◌}
use Rattle.internal_methods.specs.Methods.{Context, Methods, Written}
use Rattle.internal_methods.specs.Ordinary.{is_full}
use Rattle.internal_methods.specs.Internal.{methods}
use Rattle.internal_methods.proofs.Walk.{Any, any-descriptor, allowing, MethodsBy}
use Rattle.internal_methods.proofs.Longer.{Longer, longer-pure, longer-fails, longer-bind, methods-longer}
use Rattle.internal_methods.proofs.Reader.{Reader, reader-pure, reader-fails, reader-bind, methods-reader}
use Rattle.internal_methods.proofs.Richer.{Richer, richer-pure, richer-fails, richer-bind, methods-richer}
use Rattle.internal_methods.proofs.Room.{is_seven, one_more, Alike, Same, Room, Roomy, same-pure, same-bind, methods-roomy}
use Rattle.steps.specs.Operation.{Level, sealed, frozen, Operation, make_object, make_proxy, revoke, get_prototype_of, set_prototype_of, is_extensible, prevent_extensions, get_own_property, define_own_property, has_property, get, set, delete, own_property_keys, make_function, release, set_integrity_level, test_integrity_level, makes_object, writes_in_turn}
use Rattle.steps.specs.Sequence.{Ran, Sequence, written, reads, writes, throw_if, for_each}
use Rattle.steps.specs.Sequence as sequence
use Rattle.steps.specs.SetIntegrityLevel.{define_property_or_throw, freeze_property, turn}
use Rattle.steps.specs.SetIntegrityLevel
use Rattle.steps.specs.TestIntegrityLevel.{is_loose, test_properties}
use Rattle.steps.specs.TestIntegrityLevel
use Rattle.steps.specs.Perform.{Result, value, boolean, once, in_turn, reading, writing, make, revoked, over, perform}
use Rattle.steps.proofs.Sequences.{whole, settled, whole-pure, whole-fails, whole-reads, whole-writes, whole-bind, settled-once, settled-in_turn, Led, leads-pure, leads-bind}
use Rattle.steps.proofs.Integrity.{integrity-fits}

-- the rules of a relation that asks for no more than they say
record Rules (J : (A : Type 0) → M A → M A → Type 0) : Type 1 where
  gives : {A : Type 0} (a : A) → J A (pure a) (pure a)
  refuses : J (Result × Store) (fails (Refused 7)) (fails (Refused 7))
  errs : {A : Type 0} (n : ℕ) → J A (fails (TypeError n)) (fails (TypeError n))
  binds : {A B : Type 0} {m m' : M A} {k k' : A → M B} → J A m m' → ((a : A) → J B (k a) (k' a)) → J B (m >>= k) (m' >>= k')

-- What writes as it goes

module _ {J : (A : Type 0) → M A → M A → Type 0} (law : Rules J) where
  along : {A : Type 0} {m m' k k' : M A} → m ≡ k → m' ≡ k' → J A k k' → J A m m'
  along {A} {m} {m'} {k} {k'} p q h = subst (λ x. J A x m') (sym p) (subst (λ x. J A k x) (sym q) h)

  -- over every store
  record Turns {A : Type 0} (m m' : Sequence A) : Type 0 where
    over : (σ : Store) → J (A × Store) (whole m σ) (whole m' σ)

  turns-pure : {A : Type 0} (a : A) → Turns (sequence.pure a) (sequence.pure a)
  turns-pure a = record { over = λ σ. along (whole-pure a σ) (whole-pure a σ) (law.gives _) }

  turns-throw_if : (n : ℕ) (b : Bool) → Turns (throw_if n b) (throw_if n b)
  unfolding throw_if
  turns-throw_if n true = record { over = λ σ. along (whole-fails (TypeError n) σ) (whole-fails (TypeError n) σ) (law.errs n) }
  turns-throw_if n false = turns-pure tt

  turns-reads : {A : Type 0} {m m' : Store → M A} → ((σ : Store) → J A (m σ) (m' σ)) → Turns (reads m) (reads m')
  turns-reads {m = m} {m'} h = record { over = λ σ. along (whole-reads m σ) (whole-reads m' σ) (law.binds (h σ) (λ a. law.gives _)) }

  turns-writes : {A : Type 0} {m m' : Store → M (A × Store)} → ((σ : Store) → J (A × Store) (m σ) (m' σ)) → Turns (writes m) (writes m')
  turns-writes {m = m} {m'} h = record { over = λ σ. along (whole-writes m σ) (whole-writes m' σ) (h σ) }

  turns-bind : {A B : Type 0} {m m' : Sequence A} {k k' : A → Sequence B} → Turns m m' → ((a : A) → Turns (k a) (k' a)) → Turns (sequence.◌>>=◌ m k) (sequence.◌>>=◌ m' k')
  turns-bind {m = m} {m'} {k} {k'} h g = record { over = λ σ. along (whole-bind m k σ) (whole-bind m' k' σ) (law.binds (h.over σ) (λ a. (g a.0).over a.1)) }

  turns-if : {A : Type 0} {m m' k k' : Sequence A} (b : Bool) → Turns m m' → Turns k k' → Turns (sequence.when◌then◌else◌ b m k) (sequence.when◌then◌else◌ b m' k')
  unfolding sequence.when◌then◌else◌
  turns-if true f g = f
  turns-if false f g = g

  -- 7.3.15
  module _ (call call' : Store → Methods) (o : ℕ) (h : (σ : Store) → MethodsBy (λ A Q m m'. J A m m') (λ m m'. J Written m m') Any Any (λ _ _. Any) (call σ) (call' σ)) where
    define-turns : (k : PropertyKey) (d : PropertyDescriptor) → Turns (define_property_or_throw call o k d) (define_property_or_throw call' o k d)
    unfolding define_property_or_throw
    define-turns k d = turns-bind (turns-writes (λ σ. (h σ).define_own_property o k d tt (any-descriptor d))) (λ success. turns-throw_if 32 (not success))

    turn-turns : (level : Level) (k : PropertyKey) → Turns (turn call o level k) (turn call' o level k)
    unfolding turn freeze_property
    turn-turns sealed k = define-turns k _
    turn-turns frozen k = turns-bind (turns-reads (λ σ. (h σ).get_own_property o k tt)) (elim [
      | None ↦ turns-pure tt
      | Some p ↦ define-turns k _
    ])

    each-turns : (level : Level) (ks : List PropertyKey) → Turns (for_each (turn call o level) ks) (for_each (turn call' o level) ks)
    unfolding for_each
    each-turns level [] = turns-pure tt
    each-turns level (k ∷ ks) = turns-bind (turn-turns level k) (λ _. each-turns level ks)

    set-turns : (level : Level) → Turns (SetIntegrityLevel.set_integrity_level call o level) (SetIntegrityLevel.set_integrity_level call' o level)
    unfolding SetIntegrityLevel.set_integrity_level
    set-turns level = turns-bind (turns-writes (λ σ. (h σ).prevent_extensions o tt)) (λ status. turns-if (not status) (turns-pure false)
        (turns-bind (turns-reads (λ σ. (h σ).own_property_keys o tt)) (λ keys. turns-bind (each-turns level keys) (λ _. turns-pure true))))

-- Operations

module _ {J : (A : Type 0) → M A → M A → Type 0} (law : Rules J) (c : Context) (n l : ℕ)
    (h : (σ : Store) → MethodsBy (λ A Q m m'. J A m m') (λ m m'. J Written m m') Any Any (λ _ _. Any) (methods n (over c σ)) (methods l (over c σ))) where
  by-if : {A : Type 0} {m m' k k' : M A} (b : Bool) → J A m m' → J A k k' → J A (when◌then◌else◌ b m k) (when◌then◌else◌ b m' k')
  unfolding when◌then◌else◌
  by-if true f g = f
  by-if false f g = g

  once_by : {m m' : M (Result × Store)} → J (Result × Store) m m' → J (Result × Store) (settled (once c.store m)) (settled (once c.store m'))
  once_by {m} {m'} f = along law (settled-once c.store m) (settled-once c.store m') f

  makes : (x : Object) (b : Bool) → J (Result × Store) (settled (once c.store (make c.store x b))) (settled (once c.store (make c.store x b)))
  unfolding make
  makes x b = once_by (by-if _ (law.gives _) law.refuses)

  reads-by : {A : Type 0} (result : A → Result) {m m' : M A} → J A m m' → J (Result × Store) (settled (once c.store (reading c.store result m))) (settled (once c.store (reading c.store result m')))
  reads-by result f = once_by (law.binds f (λ a. law.gives _))

  writes-by : {m m' : M Written} → J Written m m' → J (Result × Store) (settled (once c.store (writing m))) (settled (once c.store (writing m')))
  writes-by f = once_by (law.binds f (λ a. law.gives _))

  -- 7.3.16
  tests_by : (o : ℕ) (level : Level) (ks : List PropertyKey) → J Bool (test_properties (methods n c) o level ks) (test_properties (methods l c) o level ks)
  unfolding test_properties
  tests_by o level [] = law.gives _
  tests_by o level (k ∷ ks) = law.binds ((h c.store).get_own_property o k tt) (λ current_desc. by-if (is_loose level current_desc) (law.gives _) (tests_by o level ks))

  test_by : (o : ℕ) (level : Level) → J Bool (TestIntegrityLevel.test_integrity_level (methods n c) o level) (TestIntegrityLevel.test_integrity_level (methods l c) o level)
  unfolding TestIntegrityLevel.test_integrity_level
  test_by o level = law.binds ((h c.store).is_extensible o tt) (λ extensible. by-if extensible (law.gives _) (law.binds ((h c.store).own_property_keys o tt) (λ keys. tests_by o level keys)))

  perform-by : (asks : Operation) → J (Result × Store) (settled (perform n c asks)) (settled (perform l c asks))
  unfolding perform
  perform-by (make_object v) = makes _ _
  perform-by (make_proxy o traps) = makes _ _
  perform-by (revoke o) = once_by (law.gives _)
  perform-by (get_prototype_of o) = reads-by _ ((h c.store).get_prototype_of o tt)
  perform-by (set_prototype_of o v) = writes-by ((h c.store).set_prototype_of o v tt tt)
  perform-by (is_extensible o) = reads-by _ ((h c.store).is_extensible o tt)
  perform-by (prevent_extensions o) = writes-by ((h c.store).prevent_extensions o tt)
  perform-by (get_own_property o k) = reads-by _ ((h c.store).get_own_property o k tt)
  perform-by (define_own_property o k d) = writes-by ((h c.store).define_own_property o k d tt (any-descriptor d))
  perform-by (has_property o k) = reads-by _ ((h c.store).has_property o k tt)
  perform-by (get o k receiver) = reads-by _ ((h c.store).get o k receiver tt)
  perform-by (set o k v receiver) = writes-by ((h c.store).set o k v receiver tt tt tt)
  perform-by (delete o k) = writes-by ((h c.store).delete o k tt)
  perform-by (own_property_keys o) = reads-by _ ((h c.store).own_property_keys o tt)
  perform-by (make_function v) = makes _ _
  perform-by (release o) = once_by (law.gives _)
  perform-by (set_integrity_level o level) = along law (settled-in_turn c.store _) (settled-in_turn c.store _)
      ((turns-bind law (set-turns law (λ σ. methods n (over c σ)) (λ σ. methods l (over c σ)) o h level) (λ b. turns-pure law (boolean b))).over c.store)
  perform-by (test_integrity_level o level) = reads-by _ (test_by o level)

pub perform-longer : (n : ℕ) (c : Context) (asks : Operation) → Longer (settled (perform n c asks))
perform-longer n c = perform-by (record { gives = longer-pure; refuses = longer-fails _; errs = λ i. longer-fails _; binds = λ h k. longer-bind h k }) c n n (λ σ. methods-longer n (over c σ))

pub perform-reader : (n : ℕ) (c : Context) (asks : Operation) → Reader (settled (perform n c asks))
perform-reader n c = perform-by (record { gives = reader-pure; refuses = reader-fails _ refl; errs = λ i. reader-fails _ refl; binds = λ h k. reader-bind h k }) c n n (λ σ. methods-reader n (over c σ))

pub perform-richer : (n l : ℕ) → n ≤ l → (c : Context) (asks : Operation) → Richer n l (settled (perform n c asks)) (settled (perform l c asks))
perform-richer n l i c = perform-by (record { gives = richer-pure; refuses = richer-fails _ refl; errs = λ i. richer-fails _ refl; binds = λ h k. richer-bind h k }) c n l (λ σ. methods-richer n l (over c σ) i)

-- Room for one more ---------------------------------------------------------------------------

-- how an operation ends, and how it ends with room for one property more
pub data RoomOut (c : Context) : Ran Result → Ran Result → Type 0 where
  done : {r : Result} {t : State} {τ : Store} → (is_full c ≡ true → length τ.properties ≤ length c.store.properties) → RoomOut c (Out.done r t, τ) (Out.done r t, τ)
  failed : {f : Failure} {t : State} → is_seven f ≡ false → RoomOut c (Out.failed f t, c.store) (Out.failed f t, c.store)
  added : {t : State} {τ : Store} → is_full c ≡ true → length τ.properties ≡ suc (length c.store.properties) → RoomOut c (Out.failed (Refused 7) t, c.store) (Out.done (boolean true) t, τ)

module _ (c : Context) (n : ℕ) where
  abbrev c⁺ : Context
  c⁺ = allowing c (one_more c)

  reads-room : {A : Type 0} {Q : A → Type 0} (result : A → Result) {m m' : M A} → Same Q m m' → (s : State)
      → RoomOut c ((once c.store (reading c.store result m)).run s) ((once c.store (reading c.store result m')).run s)
  unfolding once ◌>>=◌ next pure
  reads-room {A} {Q} result h s = go (h.runs s)
    where
      go : {o p : Out A} → Alike Q o p → RoomOut c (written c.store (next (λ a. pure (result a, c.store)) o)) (written c.store (next (λ a. pure (result a, c.store)) p))
      go (Alike.done q) = done (λ _. le_refl _)
      go (Alike.failed e) = failed e

  writes-room : {m m' : M Written} → Roomy c m m' → (s : State) → RoomOut c ((once c.store (writing m)).run s) ((once c.store (writing m')).run s)
  unfolding once ◌>>=◌ next pure
  writes-room h s = go (h.rooms s)
    where
      go : {o p : Out Written} → Room c o p → RoomOut c (written c.store (next (λ a. pure (boolean a.0, a.1)) o)) (written c.store (next (λ a. pure (boolean a.0, a.1)) p))
      go (Room.done q) = done q
      go (Room.failed e) = failed e
      go (Room.added f e) = added f e

  revoked-kept : (o : ℕ) (x : Option Object) → length (revoked c.store o x).properties ≤ length c.store.properties
  unfolding put
  revoked-kept o None = le_refl _
  revoked-kept o (Some (Ordinary r)) = le_refl _
  revoked-kept o (Some (Proxy p)) = le_refl _

  -- 7.3.16
  same_if : {m m' k k' : M Bool} (b : Bool) → Same Any m m' → Same Any k k' → Same Any (when◌then◌else◌ b m k) (when◌then◌else◌ b m' k')
  unfolding when◌then◌else◌
  same_if true f g = f
  same_if false f g = g

  tests_same : (o : ℕ) (level : Level) (ks : List PropertyKey) → Same Any (test_properties (methods n c) o level ks) (test_properties (methods n c⁺) o level ks)
  unfolding test_properties
  tests_same o level [] = same-pure _ tt
  tests_same o level (k ∷ ks) = same-bind ((methods-roomy n c).get_own_property o k tt) (λ d _. same_if (is_loose level d) (same-pure _ tt) (tests_same o level ks))

  test-same : (o : ℕ) (level : Level) → Same Any (TestIntegrityLevel.test_integrity_level (methods n c) o level) (TestIntegrityLevel.test_integrity_level (methods n c⁺) o level)
  unfolding TestIntegrityLevel.test_integrity_level
  test-same o level = same-bind ((methods-roomy n c).is_extensible o tt) (λ x _. same_if x (same-pure _ tt)
      (same-bind ((methods-roomy n c).own_property_keys o tt) (λ ks _. tests_same o level ks)))

  pub perform-room : (asks : Operation) → makes_object asks ≡ false → writes_in_turn asks ≡ false → (s : State) → RoomOut c ((perform n c asks).run s) ((perform n c⁺ asks).run s)
  unfolding perform once pure
  perform-room (make_object v) e w s = absurd (false≢true (sym e))
  perform-room (make_proxy o traps) e w s = absurd (false≢true (sym e))
  perform-room (revoke o) e w s = done (λ _. revoked-kept o (lookup c.store o))
  perform-room (get_prototype_of o) e w s = reads-room _ ((methods-roomy n c).get_prototype_of o tt) s
  perform-room (set_prototype_of o v) e w s = writes-room ((methods-roomy n c).set_prototype_of o v tt tt) s
  perform-room (is_extensible o) e w s = reads-room _ ((methods-roomy n c).is_extensible o tt) s
  perform-room (prevent_extensions o) e w s = writes-room ((methods-roomy n c).prevent_extensions o tt) s
  perform-room (get_own_property o k) e w s = reads-room _ ((methods-roomy n c).get_own_property o k tt) s
  perform-room (define_own_property o k d) e w s = writes-room ((methods-roomy n c).define_own_property o k d tt (any-descriptor d)) s
  perform-room (has_property o k) e w s = reads-room _ ((methods-roomy n c).has_property o k tt) s
  perform-room (get o k receiver) e w s = reads-room _ ((methods-roomy n c).get o k receiver tt) s
  perform-room (set o k v receiver) e w s = writes-room ((methods-roomy n c).set o k v receiver tt tt tt) s
  perform-room (delete o k) e w s = writes-room ((methods-roomy n c).delete o k tt) s
  perform-room (own_property_keys o) e w s = reads-room _ ((methods-roomy n c).own_property_keys o tt) s
  perform-room (make_function v) e w s = absurd (false≢true (sym e))
  perform-room (release o) e w s = done (λ _. released-fewer c.store o)
  perform-room (set_integrity_level o level) e w s = absurd (false≢true (sym w))
  perform-room (test_integrity_level o level) e w s = reads-room _ (test-same o level) s

  -- what writes as it goes adds no property, and is never refused for want of room
  pub perform-fits : (asks : Operation) → writes_in_turn asks ≡ true → (s : State)
      → Led (λ (r : Result) (τ : Store). length τ.properties ≤ length c.store.properties) (λ f τ. is_seven f ≡ false) ((perform n c asks).run s).0 ((perform n c asks).run s).1
  unfolding perform in_turn
  perform-fits (make_object v) e s = absurd (false≢true e)
  perform-fits (make_proxy o traps) e s = absurd (false≢true e)
  perform-fits (revoke o) e s = absurd (false≢true e)
  perform-fits (get_prototype_of o) e s = absurd (false≢true e)
  perform-fits (set_prototype_of o v) e s = absurd (false≢true e)
  perform-fits (is_extensible o) e s = absurd (false≢true e)
  perform-fits (prevent_extensions o) e s = absurd (false≢true e)
  perform-fits (get_own_property o k) e s = absurd (false≢true e)
  perform-fits (define_own_property o k d) e s = absurd (false≢true e)
  perform-fits (has_property o k) e s = absurd (false≢true e)
  perform-fits (get o k receiver) e s = absurd (false≢true e)
  perform-fits (set o k v receiver) e s = absurd (false≢true e)
  perform-fits (delete o k) e s = absurd (false≢true e)
  perform-fits (own_property_keys o) e s = absurd (false≢true e)
  perform-fits (make_function v) e s = absurd (false≢true e)
  perform-fits (release o) e s = absurd (false≢true e)
  perform-fits (set_integrity_level o level) e s = (leads-bind (integrity-fits n c o c.store level) (λ b. leads-pure (boolean b) (λ σ q. by σ b q))).from c.store (le_refl _) s
    where
      by : (τ : Store) (b : Bool) {P : Type 0} → (b ≡ true → (length τ.properties ≤ length c.store.properties) × P) × (b ≡ false → length τ.properties ≤ length c.store.properties) → length τ.properties ≤ length c.store.properties
      by τ true q = (q.0 refl).0
      by τ false q = q.1 refl
  perform-fits (test_integrity_level o level) e s = absurd (false≢true e)

  -- an object that is made, under any allowance
  pub data MakesOut (s : State) : Ran Result → Type 0 where
    made : (x : Object) (b : Bool) → ltb (live_count c.store) maximum_objects ≡ true → MakesOut s (Out.done (value (named b (next_number c.store))) s, add c.store x b)
    crowded : ltb (live_count c.store) maximum_objects ≡ false → MakesOut s (Out.failed (Refused 7) s, c.store)

  make-out : (x : Object) (b : Bool) (s : State) → MakesOut s ((once c.store (make c.store x b)).run s)
  unfolding once make when◌then◌else◌ pure fails
  make-out x b s = go (ltb (live_count c.store) maximum_objects) refl
    where
      go : (room : Bool) → ltb (live_count c.store) maximum_objects ≡ room
          → MakesOut s (written c.store ((when◌then◌else◌ room (pure (value (named b (next_number c.store)), add c.store x b)) (fails (Refused 7))).run s))
      go true e = made x b e
      go false e = crowded e

  pub perform-makes : (allowance : ℕ) (asks : Operation) → makes_object asks ≡ true → (s : State) → MakesOut s ((perform n (allowing c allowance) asks).run s)
  unfolding perform
  perform-makes a (make_object v) e s = make-out _ _ s
  perform-makes a (make_proxy o traps) e s = make-out _ _ s
  perform-makes a (revoke o) e s = absurd (false≢true e)
  perform-makes a (get_prototype_of o) e s = absurd (false≢true e)
  perform-makes a (set_prototype_of o v) e s = absurd (false≢true e)
  perform-makes a (is_extensible o) e s = absurd (false≢true e)
  perform-makes a (prevent_extensions o) e s = absurd (false≢true e)
  perform-makes a (get_own_property o k) e s = absurd (false≢true e)
  perform-makes a (define_own_property o k d) e s = absurd (false≢true e)
  perform-makes a (has_property o k) e s = absurd (false≢true e)
  perform-makes a (get o k receiver) e s = absurd (false≢true e)
  perform-makes a (set o k v receiver) e s = absurd (false≢true e)
  perform-makes a (delete o k) e s = absurd (false≢true e)
  perform-makes a (own_property_keys o) e s = absurd (false≢true e)
  perform-makes a (make_function v) e s = make-out _ _ s
  perform-makes a (release o) e s = absurd (false≢true e)
  perform-makes a (set_integrity_level o level) e s = absurd (false≢true e)
  perform-makes a (test_integrity_level o level) e s = absurd (false≢true e)
