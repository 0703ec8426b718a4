-- Laws of what writes as it goes: seen as one method, and what holds of every store that it leaves. Assumes nothing.
use Rattle.std.specs.Prelude.{None, Some}
use Prim.Native.Nat.{ℕ}
use mathlib.Core.Path.{◌≡◌, refl}
use mathlib.Core.Bool.{Bool, true, false, not, false≢true, true≢false}
use mathlib.Core.List.{List, [], ◌∷◌}
use Rattle.value.specs.declared.PropertyKey.{PropertyKey}
use Rattle.property.specs.declared.PropertyDescriptor.{PropertyDescriptor}
use Rattle.store.specs.Store.{Store}
use Rattle.internal_methods.specs.declared.Failure.{Failure}
use Rattle.internal_methods.specs.declared.Failure.TheVariants.{TypeError}
use Rattle.internal_methods.specs.Monad.{State, Out, M, pure, fails, next, ◌>>=◌}
use Rattle.internal_methods.specs.Methods.{Context, Methods}
use Rattle.internal_methods.proofs.Ensures.{Ensures}
use Rattle.steps.specs.Operation.{Level, sealed, frozen, Operation, make_object, make_proxy, revoke, get_prototype_of, set_prototype_of, is_extensible, prevent_extensions, get_own_property, define_own_property, has_property, get, set, delete, own_property_keys, make_function, release, set_integrity_level, test_integrity_level}
use Rattle.steps.specs.Sequence.{Ran, Sequence, written, reads, writes, throw_if, for_each}
use Rattle.steps.specs.Sequence as sequence
use Rattle.steps.specs.SetIntegrityLevel.{define_property_or_throw, freeze_property, turn}
use Rattle.steps.specs.SetIntegrityLevel
use Rattle.steps.specs.Perform.{Result, Run, once, in_turn, perform}

-- As one method -------------------------------------------------------------------------

-- a result with the store after it; of a failure, what was left is forgotten
abbrev pub joined : {A : Type 0} → Store → Out A → Out (A × Store)
joined σ (Out.failed f s) = Out.failed f s
joined σ (Out.done a s) = Out.done (a, σ) s

abbrev pub whole : {A : Type 0} → Sequence A → Store → M (A × Store)
whole m σ = record { run = λ s. joined (m.run σ s).1 (m.run σ s).0 }

abbrev pub settled : Run → M (Result × Store)
settled r = record { run = λ s. joined (r.run s).1 (r.run s).0 }

-- methods that run alike are the same
pub same-method : {A : Type 0} (m k : M A) → ((s : State) → m.run s ≡ k.run s) → m ≡ k
same-method m k h = λ i. record { run = λ s. h s i }

module _ {A : Type 0} where
  pub whole-pure : (a : A) (σ : Store) → whole (sequence.pure a) σ ≡ pure (a, σ)
  unfolding sequence.pure pure
  whole-pure a σ = refl

  pub whole-fails : (f : Failure) (σ : Store) → whole (sequence.fails {A = A} f) σ ≡ fails f
  unfolding sequence.fails fails
  whole-fails f σ = refl

  pub whole-reads : (m : Store → M A) (σ : Store) → whole (reads m) σ ≡ (m σ >>= λ a. pure (a, σ))
  unfolding reads ◌>>=◌ next pure
  whole-reads m σ = same-method _ _ (λ s. go ((m σ).run s))
    where
      go : (x : Out A) → joined σ x ≡ next (λ a. pure (a, σ)) x
      go (Out.failed f s) = refl
      go (Out.done a s) = refl

  joined-written : (σ : Store) (x : Out (A × Store)) → joined (written σ x).1 (written σ x).0 ≡ x
  joined-written σ (Out.failed f s) = refl
  joined-written σ (Out.done a s) = refl

  pub whole-writes : (m : Store → M (A × Store)) (σ : Store) → whole (writes m) σ ≡ m σ
  unfolding writes
  whole-writes m σ = same-method _ _ (λ s. joined-written σ ((m σ).run s))

pub settled-once : (σ : Store) (m : M (Result × Store)) → settled (once σ m) ≡ m
unfolding once
settled-once σ m = same-method _ _ (λ s. joined-written σ (m.run s))

pub settled-in_turn : (σ : Store) (m : Sequence Result) → settled (in_turn σ m) ≡ whole m σ
unfolding in_turn
settled-in_turn σ m = refl

module _ {A B : Type 0} where
  pub whole-bind : (m : Sequence A) (k : A → Sequence B) (σ : Store) → whole (sequence.◌>>=◌ m k) σ ≡ (whole m σ >>= λ a. whole (k a.0) a.1)
  unfolding sequence.◌>>=◌ sequence.next ◌>>=◌ next
  whole-bind m k σ = same-method _ _ (λ s. go (m.run σ s).0 (m.run σ s).1)
    where
      go : (x : Out A) (τ : Store) → joined (sequence.next k x τ).1 (sequence.next k x τ).0 ≡ next (λ a. whole (k a.0) a.1) (joined τ x)
      go (Out.failed f s) τ = refl
      go (Out.done a s) τ = refl

-- What holds of every store that it leaves ------------------------------------------------

-- how a method ends: with a result that is Q, or in a failure that is E
pub data Met {A : Type 0} (Q : A → Type 0) (E : Failure → Type 0) : Out A → Type 0 where
  done : {a : A} {t : State} → Q a → Met Q E (Out.done a t)
  failed : {f : Failure} {t : State} → E f → Met Q E (Out.failed f t)

pub record Meets {A : Type 0} (m : M A) (Q : A → Type 0) (E : Failure → Type 0) : Type 0 where
  pub at : (s : State) → Met Q E (m.run s)

-- what is ensured of a result, where nothing is asked of a failure
pub meets-ensured : {A : Type 0} {m : M A} {Q : A → Type 0} {E : Failure → Type 0} → Ensures m Q → ((f : Failure) → E f) → Meets m Q E
meets-ensured {A} {m} {Q} {E} h e = record { at = λ s. go s (m.run s) refl }
  where
    go : (s : State) (x : Out A) → m.run s ≡ x → Met Q E x
    go s (Out.failed f t) i = failed (e f)
    go s (Out.done a t) i = done (h.at s a t i)

-- the same with the store
pub data Led {A : Type 0} (Q : A → Store → Type 0) (E : Failure → Store → Type 0) : Out A → Store → Type 0 where
  done : {a : A} {t : State} {τ : Store} → Q a τ → Led Q E (Out.done a t) τ
  failed : {f : Failure} {t : State} {τ : Store} → E f τ → Led Q E (Out.failed f t) τ

pub record Leads {A : Type 0} (P : Store → Type 0) (m : Sequence A) (Q : A → Store → Type 0) (E : Failure → Store → Type 0) : Type 0 where
  pub from : (σ : Store) → P σ → (s : State) → Led Q E (m.run σ s).0 (m.run σ s).1

module _ {E : Failure → Store → Type 0} {A : Type 0} {P : Store → Type 0} {Q : A → Store → Type 0} where
  pub leads-pure : (a : A) → ((σ : Store) → P σ → Q a σ) → Leads P (sequence.pure a) Q E
  unfolding sequence.pure
  leads-pure a h = record { from = λ σ p s. done (h σ p) }

  pub leads-fails : (f : Failure) → ((σ : Store) → P σ → E f σ) → Leads P (sequence.fails f) Q E
  unfolding sequence.fails
  leads-fails f h = record { from = λ σ p s. failed (h σ p) }

  pub leads-reads : {m : Store → M A} → ((σ : Store) → P σ → Meets (m σ) (λ a. Q a σ) (λ f. E f σ)) → Leads P (reads m) Q E
  unfolding reads
  leads-reads {m} h = record { from = λ σ p s. go σ ((h σ p).at s) }
    where
      go : (σ : Store) {x : Out A} → Met (λ a. Q a σ) (λ f. E f σ) x → Led Q E x σ
      go σ (done q) = done q
      go σ (failed e) = failed e

  pub leads-writes : {m : Store → M (A × Store)} → ((σ : Store) → P σ → Meets (m σ) (λ a. Q a.0 a.1) (λ f. E f σ)) → Leads P (writes m) Q E
  unfolding writes
  leads-writes {m} h = record { from = λ σ p s. go σ ((h σ p).at s) }
    where
      go : (σ : Store) {x : Out (A × Store)} → Met (λ a. Q a.0 a.1) (λ f. E f σ) x → Led Q E (written σ x).0 (written σ x).1
      go σ (done q) = done q
      go σ (failed e) = failed e

  pub leads-if : {m k : Sequence A} (b : Bool) → (b ≡ true → Leads P m Q E) → (b ≡ false → Leads P k Q E) → Leads P (sequence.when◌then◌else◌ b m k) Q E
  unfolding sequence.when◌then◌else◌
  leads-if true f g = f refl
  leads-if false f g = g refl

module _ {E : Failure → Store → Type 0} {A B : Type 0} {P : Store → Type 0} {R : A → Store → Type 0} {Q : B → Store → Type 0} where
  pub leads-bind : {m : Sequence A} {k : A → Sequence B} → Leads P m R E → ((a : A) → Leads (R a) (k a) Q E) → Leads P (sequence.◌>>=◌ m k) Q E
  unfolding sequence.◌>>=◌ sequence.next
  leads-bind {m} {k} h g = record { from = λ σ p s. go (h.from σ p s) }
    where
      go : {x : Out A} {τ : Store} → Led R E x τ → Led Q E (sequence.next k x τ).0 (sequence.next k x τ).1
      go (done {a} {t} {τ} q) = (g a).from τ q t
      go (failed e) = failed e

-- 7.3.15 --------------------------------------------------------------------------------------

-- what the methods that it calls keep: P before the object is non-extensible, and I from then on
pub record Integral (call : Store → Methods) (o : ℕ) (P I : Store → Type 0) (E : Failure → Store → Type 0) : Type 0 where
  pub prevents : (σ : Store) → P σ → Meets ((call σ).prevent_extensions o) (λ w. (w.0 ≡ true → I w.1) × (w.0 ≡ false → P w.1)) (λ f. E f σ)
  pub lists : (σ : Store) → I σ → Meets ((call σ).own_property_keys o) (λ _. Unit {0}) (λ f. E f σ)
  pub tells : (σ : Store) → I σ → (k : PropertyKey) → Meets ((call σ).get_own_property o k) (λ _. Unit {0}) (λ f. E f σ)
  pub defines : (σ : Store) → I σ → (k : PropertyKey) (d : PropertyDescriptor) → Meets ((call σ).define_own_property o k d) (λ w. I w.1) (λ f. E f σ)
  pub rejects : (σ : Store) → I σ → E (TypeError 32) σ

module _ {call : Store → Methods} {o : ℕ} {P I : Store → Type 0} {E : Failure → Store → Type 0} (h : Integral call o P I E) where
  keeping : {A : Type 0} {σ : Store} {m : M A} → I σ → Meets m (λ _. Unit {0}) (λ f. E f σ) → Meets m (λ _. I σ) (λ f. E f σ)
  keeping {A} {σ} i g = record { at = λ s. go (g.at s) }
    where
      go : {x : Out A} → Met (λ _. Unit {0}) (λ f. E f σ) x → Met (λ _. I σ) (λ f. E f σ) x
      go (done q) = done i
      go (failed e) = failed e

  throws : (b : Bool) → Leads I (throw_if 32 b) (λ _. I) E
  unfolding throw_if
  throws true = leads-fails _ h.rejects
  throws false = leads-pure _ (λ σ i. i)

  define-leads : (k : PropertyKey) (d : PropertyDescriptor) → Leads I (define_property_or_throw call o k d) (λ _. I) E
  unfolding define_property_or_throw
  define-leads k d = leads-bind {R = λ _. I} (leads-writes (λ σ i. h.defines σ i k d)) (λ success. throws (not success))

  turn-leads : (level : Level) (k : PropertyKey) → Leads I (turn call o level k) (λ _. I) E
  unfolding turn freeze_property
  turn-leads sealed k = define-leads k _
  turn-leads frozen k = leads-bind {R = λ _. I} (leads-reads (λ σ i. keeping i (h.tells σ i k))) (elim [
    | None ↦ leads-pure _ (λ σ i. i)
    | Some p ↦ define-leads k _
  ])

  turns-lead : (level : Level) (ks : List PropertyKey) → Leads I (for_each (turn call o level) ks) (λ _. I) E
  unfolding for_each
  turns-lead level [] = leads-pure _ (λ σ i. i)
  turns-lead level (k ∷ ks) = leads-bind {R = λ _. I} (turn-leads level k) (λ _. turns-lead level ks)

  status-is : (b : Bool) {τ : Store} → (b ≡ true → I τ) × (b ≡ false → P τ) → not b ≡ false → I τ
  status-is true q e = q.0 refl
  status-is false q e = absurd (true≢false e)

  status-not : (b : Bool) {τ : Store} → (b ≡ true → I τ) × (b ≡ false → P τ) → not b ≡ true → P τ
  status-not true q e = absurd (false≢true e)
  status-not false q e = q.1 refl

  -- a true leaves I, a false P; a failure leaves E
  pub set-leads : (level : Level) → Leads P (SetIntegrityLevel.set_integrity_level call o level) (λ b τ. (b ≡ true → I τ) × (b ≡ false → P τ)) E
  unfolding SetIntegrityLevel.set_integrity_level
  set-leads level = leads-bind (leads-writes h.prevents) (λ status. leads-if (not status)
      (λ e. leads-pure false (λ σ q. (λ f. absurd (false≢true f), λ _. status-not status q e)))
      (λ e. leads-bind {R = λ _. I} (leads-reads (λ σ q. keeping (status-is status q e) (h.lists σ (status-is status q e)))) (λ keys.
      leads-bind {R = λ _. I} (turns-lead level keys) (λ _. leads-pure true (λ σ i. (λ _. i, λ f. absurd (true≢false f)))))))

-- Operations that write at most once -----------------------------------------------------------

-- a failure leaves the store, but for what writes as it goes
pub data Once (c : Context) (asks : Operation) (x : Ran Result) : Type 0 where
  by-turns : {o : ℕ} {level : Level} → asks ≡ set_integrity_level o level → Once c asks x
  at_once : ((f : Failure) (s : State) → x.0 ≡ Out.failed f s → x.1 ≡ c.store) → Once c asks x

failure-leaves : (σ : Store) (m : M (Result × Store)) (s : State) (f : Failure) (t : State) → ((once σ m).run s).0 ≡ Out.failed f t → ((once σ m).run s).1 ≡ σ
unfolding once
failure-leaves σ m s f t = go (m.run s)
  where
    go : (x : Out (Result × Store)) → (written σ x).0 ≡ Out.failed f t → (written σ x).1 ≡ σ
    go (Out.failed g u) e = refl
    go (Out.done a u) e = absurd (false≢true cc)

pub performs-once : (n : ℕ) (c : Context) (asks : Operation) (s : State) → Once c asks ((perform n c asks).run s)
unfolding perform
performs-once n c (make_object v) s = Once.at_once (failure-leaves c.store _ s)
performs-once n c (make_proxy o traps) s = Once.at_once (failure-leaves c.store _ s)
performs-once n c (revoke o) s = Once.at_once (failure-leaves c.store _ s)
performs-once n c (get_prototype_of o) s = Once.at_once (failure-leaves c.store _ s)
performs-once n c (set_prototype_of o v) s = Once.at_once (failure-leaves c.store _ s)
performs-once n c (is_extensible o) s = Once.at_once (failure-leaves c.store _ s)
performs-once n c (prevent_extensions o) s = Once.at_once (failure-leaves c.store _ s)
performs-once n c (get_own_property o k) s = Once.at_once (failure-leaves c.store _ s)
performs-once n c (define_own_property o k d) s = Once.at_once (failure-leaves c.store _ s)
performs-once n c (has_property o k) s = Once.at_once (failure-leaves c.store _ s)
performs-once n c (get o k receiver) s = Once.at_once (failure-leaves c.store _ s)
performs-once n c (set o k v receiver) s = Once.at_once (failure-leaves c.store _ s)
performs-once n c (delete o k) s = Once.at_once (failure-leaves c.store _ s)
performs-once n c (own_property_keys o) s = Once.at_once (failure-leaves c.store _ s)
performs-once n c (make_function v) s = Once.at_once (failure-leaves c.store _ s)
performs-once n c (release o) s = Once.at_once (failure-leaves c.store _ s)
performs-once n c (set_integrity_level o level) s = Once.by-turns refl
performs-once n c (test_integrity_level o level) s = Once.at_once (failure-leaves c.store _ s)
