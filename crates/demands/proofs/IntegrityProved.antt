-- Step 18 that answers true leaves an ordinary object sealed or frozen, and step 19 says so. Assumes nothing.
use Rattle.std.specs.Prelude.{Option, None, Some}
use Prim.Native.Nat.{ℕ, zero, suc, ◌+◌, ◌*◌, ◌-◌, ◌≤◌}
use native.Mathlib.Omega.{arith}
use mathlib.Core.Path.{◌≡◌, refl, sym, ap, ◌∙◌, subst}
use mathlib.Core.Bool.{Bool, true, false, not, cond, ◌&&◌, ◌||◌, false≢true, true≢false}
use mathlib.Core.List.{List, [], ◌∷◌}
use lib.ListN.{length}
use borrow.Author.Tests.{eq-eqb}
use Rattle.value.specs.declared.PropertyKey.{PropertyKey}
use Rattle.value.specs.PropertyKey.{same_key}
use Rattle.property.specs.declared.PropertyDescriptor.{PropertyDescriptor}
use Rattle.property.specs.declared.Property.{Property}
use Rattle.property.specs.declared.Property.TheVariants.{Data, Accessor}
use Rattle.property.specs.declared.Validation.{Validation}
use Rattle.property.specs.declared.Validation.TheVariants.{Rejected, Unchanged, Becomes}
use Rattle.property.specs.Validate.{validate, applied}
use Rattle.value.proofs.SameKey.{key-refl, key-eq}
use Rattle.store.specs.declared.OrdinaryObject.{OrdinaryObject}
use Rattle.store.specs.declared.Object.{Object}
use Rattle.store.specs.declared.Object.TheVariants.{Ordinary, Proxy}
use Rattle.store.specs.Store.{Store, World, lookup, put, own, with_property}
use Rattle.text.specs.Strings.{Strings}
use Rattle.store.specs.OwnKeys.{ordinary_own_property_keys}
use Rattle.store.proofs.StoreLaws.{same_place, place-eq, lookup-with, own-with, lookup-put}
use Rattle.internal_methods.specs.declared.Failure.{Failure}
use Rattle.internal_methods.specs.Monad.{Answer, State, state, Out, pure, next, ◌>>=◌, when◌then◌else◌}
use Rattle.internal_methods.specs.Methods.{Context, Methods, Written}
use Rattle.internal_methods.specs.KeyList.{has_key}
use Rattle.internal_methods.specs.Ordinary.{apply_validation, ordinary_prevent_extensions, ordinary_define_own_property}
use Rattle.internal_methods.specs.Proxy.{proxy_prevent_extensions}
use Rattle.internal_methods.specs.Internal.{methods}
use Rattle.internal_methods.proofs.Ensures.{Ensures, ensures-pure, ensures-fails, ensures-bind, ensures-dispatch, ensures-if, ensures-weaken}
use Rattle.internal_methods.proofs.Base.{is_absent, here, at_base}
use Rattle.internal_methods.proofs.Reports.{get_own_property-exact, is_extensible-exact, own_property_keys-report}
use Rattle.internal_methods.proofs.KeyListLaws.{own-keys-has}
use Rattle.internal_methods.proofs.OrdinaryRuns.{ordinary-run, own-run, extensible-run, keys-run}
use Rattle.record.specs.Sheet.{sheet_of}
use Rattle.steps.specs.Operation.{Level, sealed, frozen, Operation, set_integrity_level, test_integrity_level}
use Rattle.steps.specs.Sequence.{Ran, Sequence, written, throw_if, for_each}
use Rattle.steps.specs.Sequence as sequence
use Rattle.steps.specs.SetIntegrityLevel.{sealed_descriptor, frozen_descriptor, define_property_or_throw, freeze_property, turn}
use Rattle.steps.specs.SetIntegrityLevel
use Rattle.steps.specs.TestIntegrityLevel.{is_loose, test_properties}
use Rattle.steps.specs.TestIntegrityLevel
use Rattle.steps.specs.Perform.{Result, boolean, once, in_turn, over, perform, maximum_calls}
use Rattle.steps.specs.Step.{context_of, ran}
use Rattle.demands.specs.Integrity.{IsFixed, HasLevel, covers, IntegrityHolds}
use Rattle.steps.proofs.Steps.{step-done, ends, resulted}
use Rattle.steps.proofs.Performed.{boolean-is}
use Rattle.steps.proofs.Sequences.{Led, Leads, leads-pure, leads-fails, leads-reads, leads-writes, leads-bind, leads-if, meets-ensured}

-- What the two descriptors make of a property ---------------------------------------------------

sealed-becomes : (q : Property) → validate false sealed_descriptor (Some q) ≡ Becomes (applied sealed_descriptor q)
unfolding validate Rattle.property.specs.Validate.reject_if Rattle.property.specs.Descriptor.is_generic_descriptor Rattle.property.specs.Descriptor.is_accessor_descriptor Rattle.property.specs.Descriptor.is_data_descriptor
sealed-becomes (Data v true e true) = refl
sealed-becomes (Data v true e false) = refl
sealed-becomes (Data v false e true) = refl
sealed-becomes (Data v false e false) = refl
sealed-becomes (Accessor g s e true) = refl
sealed-becomes (Accessor g s e false) = refl

frozen-becomes : (q : Property) → validate false (frozen_descriptor q) (Some q) ≡ Becomes (applied (frozen_descriptor q) q)
unfolding validate Rattle.property.specs.Validate.reject_if Rattle.property.specs.Descriptor.is_generic_descriptor Rattle.property.specs.Descriptor.is_accessor_descriptor Rattle.property.specs.Descriptor.is_data_descriptor
frozen-becomes (Data v true e true) = refl
frozen-becomes (Data v true e false) = refl
frozen-becomes (Data v false e true) = refl
frozen-becomes (Data v false e false) = refl
frozen-becomes (Accessor g s e true) = refl
frozen-becomes (Accessor g s e false) = refl

-- the descriptor of the level, for a property
abbrev descriptor_for : Level → Property → PropertyDescriptor
descriptor_for sealed q = sealed_descriptor
descriptor_for frozen q = frozen_descriptor q

fixes : (level : Level) (q : Property) → is_loose level (Some (applied (descriptor_for level q) q)) ≡ false
unfolding applied Rattle.property.specs.Descriptor.is_accessor_descriptor Rattle.property.specs.Descriptor.is_data_descriptor
fixes sealed (Data v w e c) = refl
fixes sealed (Accessor g s e c) = refl
fixes frozen (Data v w e c) = refl
fixes frozen (Accessor g s e c) = refl

fixed-is : (level : Level) (p : Property) → is_loose level (Some p) ≡ false → IsFixed level p
fixed-is sealed (Data v w e c) h = h
fixed-is sealed (Accessor g s e c) h = h
fixed-is frozen (Data v w e true) h = absurd (true≢false h)
fixed-is frozen (Data v w e false) h = (refl, h)
fixed-is frozen (Accessor g s e c) h = h

fixed-tight : (level tested : Level) → covers level tested ≡ true → (p : Property) → IsFixed level p → is_loose tested (Some p) ≡ false
fixed-tight sealed sealed h (Data v w e c) f = f
fixed-tight sealed sealed h (Accessor g s e c) f = f
fixed-tight sealed frozen h p f = absurd (false≢true h)
fixed-tight frozen sealed h (Data v w e c) f = f.0
fixed-tight frozen sealed h (Accessor g s e c) f = f
fixed-tight frozen frozen h (Data v w e c) f = rw (f.0, f.1)
fixed-tight frozen frozen h (Accessor g s e c) f = f

-- A definition on an ordinary object that is not extensible ---------------------------------------

module _ (c : Context) (o : ℕ) (k : PropertyKey) (d : PropertyDescriptor) (becomes : (q : Property) → own c.store o k ≡ Some q → validate false d (Some q) ≡ Becomes (applied d q)) where
  -- a true says that the property was there, and what it is now
  record Redefined (w : Written) : Type 0 where
    before : Property
    there : own c.store o k ≡ Some before
    after : w.1 ≡ with_property c.store o k (applied d before)

  apply-ordinary : (t : Option Property) → t ≡ own c.store o k → (v : Validation) → validate false d t ≡ v → Ensures (apply_validation c o k t v) (λ w. w.0 ≡ true → Redefined w)
  unfolding apply_validation validate Rattle.property.specs.Validate.reject_if
  apply-ordinary t f (Rejected n) h = ensures-pure _ (λ e. absurd (false≢true e))
  apply-ordinary None f Unchanged h = absurd (false≢true cc)
  apply-ordinary (Some q) f Unchanged h = let z : Unchanged ≡ Becomes (applied d q) = sym h ∙ becomes q (sym f) in absurd (false≢true cc)
  apply-ordinary None f (Becomes p) h = absurd (false≢true cc)
  apply-ordinary (Some q) f (Becomes p) h =
      let z : Becomes p ≡ Becomes (applied d q) = sym h ∙ becomes q (sym f) in
      let y : p ≡ applied d q = cc in
      ensures-pure _ (λ _. record { before = q; there = sym f; after = ap (with_property c.store o k) y })

  define-ordinary : (n : ℕ) (r : OrdinaryObject) → lookup c.store o ≡ Some (Ordinary r) → r.extensible ≡ false → Ensures ((methods n c).define_own_property o k d) (λ w. w.0 ≡ true → Redefined w)
  unfolding methods ordinary_define_own_property
  define-ordinary zero r e shut = ensures-fails _
  define-ordinary (suc n) r e shut = ensures-dispatch c.store o
      (λ s f. ensures-bind (get_own_property-exact n c o k r e) λ t g.
      ensures-bind (is_extensible-exact n c o r e) λ x i.
      subst (λ (b : Bool). Ensures (apply_validation c o k t (validate b d t)) (λ w. w.0 ≡ true → Redefined w)) (sym (i ∙ shut)) (apply-ordinary t g _ refl))
      (λ p f. let z : Some (Ordinary r) ≡ Some (Proxy p) = sym e ∙ f.found in absurd (false≢true cc))

-- The turns -----------------------------------------------------------------------------------------

module _ (n : ℕ) (c : Context) (o : ℕ) (level : Level) where
  abbrev call : Store → Methods
  call σ = methods n (over c σ)

  -- what is not fixed yet is still to come
  record Pending (ks : List PropertyKey) (σ : Store) : Type 0 where
    object : OrdinaryObject
    found : lookup σ o ≡ Some (Ordinary object)
    shut : object.extensible ≡ false
    listed : (k : PropertyKey) (p : Property) → own σ o k ≡ Some p → is_loose level (Some p) ≡ true → has_key k ks ≡ true

  abbrev Whatever : Failure → Store → Type 0
  Whatever f σ = Unit {0}

  -- the turn of k is over: it is absent, or fixed
  passed : (k : PropertyKey) (ks : List PropertyKey) (l : PropertyKey) → has_key l (k ∷ ks) ≡ true → same_place o k o l ≡ false → has_key l ks ≡ true
  unfolding has_key
  passed k ks l h a = go (same_key k l) refl h
    where
      apart : same_key k l ≡ false
      apart = sym (ap (λ (b : Bool). b && same_key k l) (eq-eqb o o refl)) ∙ a

      go : (b : Bool) → same_key k l ≡ b → (b || has_key l ks) ≡ true → has_key l ks ≡ true
      go true e g = absurd (true≢false (sym e ∙ apart))
      go false e g = g

  turned : (k : PropertyKey) (ks : List PropertyKey) (σ : Store) → Pending (k ∷ ks) σ → (d : Option Property) (τ : Store) → is_loose level d ≡ false
      → ((b : ℕ) → lookup τ b ≡ lookup σ b) → ((l : PropertyKey) → own τ o l ≡ cond (same_place o k o l) d (own σ o l)) → Pending ks τ
  turned k ks σ h d τ tight objects properties = record {
    object = h.object;
    found = objects o ∙ h.found;
    shut = h.shut;
    listed = λ l p e loose. go l p loose (same_place o k o l) refl (sym (properties l) ∙ e);
  }
    where
      go : (l : PropertyKey) (p : Property) → is_loose level (Some p) ≡ true → (b : Bool) → same_place o k o l ≡ b → cond b d (own σ o l) ≡ Some p → has_key l ks ≡ true
      go l p loose true a e = absurd (false≢true (sym tight ∙ (ap (is_loose level) e ∙ loose)))
      go l p loose false a e = passed k ks l (h.listed l p e loose) a

  redefined : (k : PropertyKey) (ks : List PropertyKey) (σ : Store) → Pending (k ∷ ks) σ → (q : Property) (τ : Store) → τ ≡ with_property σ o k (applied (descriptor_for level q) q) → Pending ks τ
  redefined k ks σ h q τ e = subst (Pending ks) (sym e) (turned k ks σ h (Some (applied (descriptor_for level q) q)) _ (fixes level q) (lookup-with σ o k _) (λ l. own-with σ o k _ o l))

  throws : (b : Bool) {P : Store → Type 0} → Leads (λ σ. b ≡ true → P σ) (throw_if 32 (not b)) (λ _. P) Whatever
  unfolding throw_if
  throws true = leads-pure tt (λ σ h. h refl)
  throws false = leads-fails _ (λ σ h. tt)

  turn-pends : (k : PropertyKey) (ks : List PropertyKey) → Leads (Pending (k ∷ ks)) (turn call o level k) (λ _. Pending ks) Whatever
  unfolding turn freeze_property define_property_or_throw
  turn-pends k ks = go level refl
    where
      defines : (σ : Store) → Pending (k ∷ ks) σ → (d : PropertyDescriptor) → ((q : Property) → own σ o k ≡ Some q → (d ≡ descriptor_for level q) × (validate false d (Some q) ≡ Becomes (applied d q)))
          → Ensures ((call σ).define_own_property o k d) (λ w. w.0 ≡ true → Pending ks w.1)
      defines σ h d is = ensures-weaken (define-ordinary (over c σ) o k d (λ q e. (is q e).1) n h.object h.found h.shut)
          (λ w f t. let r = f t in redefined k ks σ h r.before w.1 (r.after ∙ ap (λ (x : PropertyDescriptor). with_property σ o k (applied x r.before)) (is r.before r.there).0))

      go : (l : Level) → level ≡ l → Leads (Pending (k ∷ ks)) (turn call o l k) (λ _. Pending ks) Whatever
      go sealed e = leads-bind {R = λ b τ. b ≡ true → Pending ks τ}
          (leads-writes (λ σ h. meets-ensured (defines σ h sealed_descriptor (λ q f. (ap (λ (x : Level). descriptor_for x q) (sym e), sealed-becomes q))) (λ _. tt)))
          (λ b. throws b)
      go frozen e = leads-bind {R = λ d τ. Pending (k ∷ ks) τ × (d ≡ own τ o k)}
          (leads-reads (λ σ h. meets-ensured (ensures-weaken (get_own_property-exact n (over c σ) o k h.object h.found) (λ d f. (h, f))) (λ _. tt)))
          (elim [
            | None ↦ leads-pure tt (λ σ h. absent σ h.0 (sym h.1))
            | Some p ↦ leads-bind {R = λ b τ. b ≡ true → Pending ks τ}
                (leads-writes (λ σ h. meets-ensured (defines σ h.0 (frozen_descriptor p) (λ q f.
                let z : Some p ≡ Some q = h.1 ∙ f in
                let y : p ≡ q = cc in
                (ap frozen_descriptor y ∙ ap (λ (x : Level). descriptor_for x q) (sym e), subst (λ (x : Property). validate false (frozen_descriptor x) (Some q) ≡ Becomes (applied (frozen_descriptor x) q)) (sym y) (frozen-becomes q)))) (λ _. tt)))
                (λ b. throws b)
          ])
        where
          absent : (σ : Store) → Pending (k ∷ ks) σ → own σ o k ≡ None → Pending ks σ
          absent σ h a = turned k ks σ h None σ refl (λ b. refl) (λ l. same l (same_place o k o l) refl)
            where
              same : (l : PropertyKey) (b : Bool) → same_place o k o l ≡ b → own σ o l ≡ cond b None (own σ o l)
              same l true q = let (i, j) = place-eq o k o l q in sym (ap (own σ o) j) ∙ a
              same l false q = refl

  turns-pend : (ks : List PropertyKey) → Leads (Pending ks) (for_each (turn call o level) ks) (λ _. Pending []) Whatever
  unfolding for_each
  turns-pend [] = leads-pure tt (λ σ h. h)
  turns-pend (k ∷ ks) = leads-bind {R = λ _. Pending ks} (turn-pends k ks) (λ _. turns-pend ks)

  -- 7.3.15 as a whole
  record Solid (σ : Store) : Type 0 where
    object : OrdinaryObject
    found : lookup σ o ≡ Some (Ordinary object)
    shut : object.extensible ≡ false

  prevents : (d : ℕ) (σ : Store) (r : OrdinaryObject) → lookup σ o ≡ Some (Ordinary r) → Ensures ((methods d (over c σ)).prevent_extensions o) (λ w. Solid w.1)
  unfolding methods
  prevents zero σ r e = ensures-fails _
  prevents (suc d) σ r e = ensures-dispatch σ o
      (λ s f. ensures-pure _ (record { object = record { prototype = s.prototype; extensible = false }; found = lookup-put σ o (Ordinary s) _ f; shut = refl }))
      (λ p f. let z : Some (Ordinary r) ≡ Some (Proxy p) = sym e ∙ f.found in absurd (false≢true cc))

  lists : (σ : Store) → Solid σ → Ensures ((call σ).own_property_keys o) (λ ks. Pending ks σ)
  lists σ h = ensures-weaken (own_property_keys-report n (over c σ) o) (λ ks u. record {
    object = h.object;
    found = h.found;
    shut = h.shut;
    listed = λ k p e _. (at_base (here h.found) u).shown h.shut k ∙ ap (λ (d : Option Property). not (is_absent d)) e;
  })

  sets : (σ₀ : Store) (r : OrdinaryObject) → lookup σ₀ o ≡ Some (Ordinary r)
      → Leads (λ σ. σ ≡ σ₀) (SetIntegrityLevel.set_integrity_level call o level) (λ b τ. b ≡ true → Pending [] τ) Whatever
  unfolding SetIntegrityLevel.set_integrity_level
  sets σ₀ r e = leads-bind {R = λ b τ. Solid τ}
      (leads-writes (λ σ q. meets-ensured (prevents n σ r (ap (λ (x : Store). lookup x o) q ∙ e)) (λ _. tt)))
      (λ status. leads-if (not status)
      (λ _. leads-pure false (λ σ h f. absurd (false≢true f)))
      (λ _. leads-bind {R = λ ks τ. Pending ks τ} (leads-reads (λ σ h. meets-ensured (lists σ h) (λ _. tt))) (λ ks.
      leads-bind {R = λ _ τ. Pending [] τ} (turns-pend ks) (λ _. leads-pure true (λ σ h _. h)))))

  level-of : (σ : Store) → Pending [] σ → HasLevel level σ o
  unfolding has_key
  level-of σ h = record {
    object = h.object;
    found = h.found;
    non_extensible = h.shut;
    fixed = λ k p e. fixed-is level p (go k p e (is_loose level (Some p)) refl);
  }
    where
      go : (k : PropertyKey) (p : Property) → own σ o k ≡ Some p → (b : Bool) → is_loose level (Some p) ≡ b → is_loose level (Some p) ≡ false
      go k p e true q = absurd (false≢true (h.listed k p e q))
      go k p e false q = q

  perform-sets : (r : OrdinaryObject) → lookup c.store o ≡ Some (Ordinary r) → (s t : State) (τ : Store)
      → (perform n c (set_integrity_level o level)).run s ≡ (Out.done (boolean true) t, τ) → HasLevel level τ o
  unfolding perform in_turn
  perform-sets r e s t τ is = go ((leads-bind (sets c.store r e) (λ b. leads-pure {Q = λ x υ. x ≡ boolean true → Pending [] υ} (boolean b) (λ σ h f. h (boolean-is b true f)))).from c.store refl s)
      (ap (λ (x : Ran Result). x.0) is) (ap (λ (x : Ran Result). x.1) is)
    where
      go : {x : Out Result} {υ : Store} → Led (λ y σ. y ≡ boolean true → Pending [] σ) Whatever x υ → x ≡ Out.done (boolean true) t → υ ≡ τ → HasLevel level τ o
      go (Led.done {a} {τ = υ} q) f g = let i : a ≡ boolean true = cc in subst (λ (σ : Store). HasLevel level σ o) g (level-of υ (q i))
      go (Led.failed q) f g = absurd (false≢true cc)

-- 7.3.16 ------------------------------------------------------------------------------------------------

module _ (c : Context) (o : ℕ) (level tested : Level) (h : HasLevel level c.store o) (covered : covers level tested ≡ true) (a : List Answer) where
  tight : (d : Option Property) (k : PropertyKey) → own c.store o k ≡ d → is_loose tested d ≡ false
  tight None k e = absents tested
    where
      absents : (l : Level) → is_loose l None ≡ false
      absents sealed = refl
      absents frozen = refl
  tight (Some p) k e = fixed-tight level tested covered p (h.fixed k p e)

  tests-run : (n : ℕ) (ks : List PropertyKey) (m : ℕ) → (test_properties (methods (suc n) c) o tested ks).run (state a (length ks + m)) ≡ Out.done true (state a m)
  unfolding test_properties ◌>>=◌ next pure when◌then◌else◌
  tests-run n [] m = ap (λ (i : ℕ). Out.done true (state a i)) (let z : 0 + m ≡ m = omega arith in z)
  tests-run n (k ∷ ks) m =
      let counts : suc (length ks) + m ≡ suc (length ks + m) = omega arith in
      rw counts (ap (next (λ d. when◌then◌else◌ (is_loose tested d) (pure false) (test_properties (methods (suc n) c) o tested ks))) (own-run c o h.object h.found a n (length ks + m) k _ refl)
      ∙ (ap (λ (b : Bool). (when◌then◌else◌ b (pure false) (test_properties (methods (suc n) c) o tested ks)).run (state a (length ks + m))) (tight (own c.store o k) k refl) ∙ tests-run n ks m))

  abbrev listed : List PropertyKey
  listed = ordinary_own_property_keys c.strings c.store o

  test-run : (n m : ℕ) → (TestIntegrityLevel.test_integrity_level (methods (suc n) c) o tested).run (state a (suc (suc (length listed + m)))) ≡ Out.done true (state a m)
  unfolding TestIntegrityLevel.test_integrity_level ◌>>=◌ next pure when◌then◌else◌
  test-run n m =
      ap (next (λ x. when◌then◌else◌ x (pure false) ((methods (suc n) c).own_property_keys o >>= λ ks. test_properties (methods (suc n) c) o tested ks))) (extensible-run c o h.object h.found a n (suc (length listed + m)))
      ∙ (ap (λ (b : Bool). (when◌then◌else◌ b (pure false) ((methods (suc n) c).own_property_keys o >>= λ ks. test_properties (methods (suc n) c) o tested ks)).run (state a (suc (length listed + m)))) h.non_extensible
      ∙ (ap (next (λ ks. test_properties (methods (suc n) c) o tested ks)) (keys-run c o h.object h.found a n (length listed + m)) ∙ tests-run n listed m))

  perform-tells : (n m : ℕ) → (perform (suc n) c (test_integrity_level o tested)).run (state a (suc (suc (length listed + m)))) ≡ (Out.done (boolean true) (state a m), c.store)
  unfolding perform once ◌>>=◌ next pure
  perform-tells n m = ap (λ (x : Out Bool). written c.store (next (λ b. pure (boolean b, c.store)) x)) (test-run n m)

-- What a true of it says ---------------------------------------------------------------------------------

module _ (n : ℕ) (c : Context) (o : ℕ) (level : Level) (r : OrdinaryObject) (found : lookup c.store o ≡ Some (Ordinary r)) where
  -- no property of a listed key is loose
  abbrev AllTight : List PropertyKey → Type 0
  AllTight ks = (k : PropertyKey) → has_key k ks ≡ true → is_loose level (own c.store o k) ≡ false

  tests-mean : (ks : List PropertyKey) → Ensures (test_properties (methods n c) o level ks) (λ b. b ≡ true → AllTight ks)
  unfolding test_properties has_key
  tests-mean [] = ensures-pure _ (λ _ k h. absurd (false≢true h))
  tests-mean (k ∷ ks) = ensures-bind (get_own_property-exact n c o k r found) (λ d e. ensures-if (is_loose level d)
      (λ _. ensures-pure _ (λ f. absurd (false≢true f)))
      (λ tight. ensures-weaken (tests-mean ks) (λ b h t l there. by l (h t) (sym (ap (is_loose level) e) ∙ tight) (same_key k l) refl there)))
    where
      by : (l : PropertyKey) → AllTight ks → is_loose level (own c.store o k) ≡ false → (b : Bool) → same_key k l ≡ b → (b || has_key l ks) ≡ true → is_loose level (own c.store o l) ≡ false
      by l rest first true e there = subst (λ (x : PropertyKey). is_loose level (own c.store o x) ≡ false) (key-eq k l e) first
      by l rest first false e there = rest l there

  test-means : Ensures (TestIntegrityLevel.test_integrity_level (methods n c) o level) (λ b. b ≡ true → HasLevel level c.store o)
  unfolding TestIntegrityLevel.test_integrity_level
  test-means = ensures-bind (is_extensible-exact n c o r found) (λ x e. ensures-if x
      (λ _. ensures-pure _ (λ f. absurd (false≢true f)))
      (λ shut. ensures-bind (own_property_keys-report n c o) (λ ks u. ensures-weaken (tests-mean ks) (λ b h t. record {
        object = r;
        found = found;
        non_extensible = sym e ∙ shut;
        fixed = λ k p is. fixed-is level p (sym (ap (is_loose level) is) ∙ h t k ((at_base (here found) u).shown (sym e ∙ shut) k ∙ ap (λ (d : Option Property). not (is_absent d)) is));
      }))))

  perform-means : (s t : State) (τ : Store) → (perform n c (test_integrity_level o level)).run s ≡ (Out.done (boolean true) t, τ) → HasLevel level c.store o
  unfolding perform once ◌>>=◌ next pure
  perform-means s t τ is = go ((TestIntegrityLevel.test_integrity_level (methods n c) o level).run s) refl (ap (λ (x : Ran Result). x.0) is)
    where
      go : (x : Out Bool) → (TestIntegrityLevel.test_integrity_level (methods n c) o level).run s ≡ x
          → (written c.store (next (λ b. pure (boolean b, c.store)) x)).0 ≡ Out.done (boolean true) t → HasLevel level c.store o
      go (Out.failed f u) e h = absurd (false≢true cc)
      go (Out.done b u) e h = let i : boolean b ≡ boolean true = cc in test-means.at s b u e (boolean-is b true i)

-- an object's keys are those of its properties
listing-put : (strings : Strings) (σ : Store) (o : ℕ) (x : Object) → ordinary_own_property_keys strings (put σ o x) o ≡ ordinary_own_property_keys strings σ o
unfolding ordinary_own_property_keys put
listing-put strings σ o x = refl

-- 7.3.15 on an ordinary object -------------------------------------------------------------------------------

module _ (c : Context) (o : ℕ) (level : Level) (a : List Answer) (n : ℕ) where
  abbrev calls : Store → Methods
  calls σ = methods (suc (suc n)) (over c σ)

  -- the calls of a turn
  abbrev cost : Level → ℕ
  cost sealed = 3
  cost frozen = 4

  module _ (σ : Store) (r : OrdinaryObject) (found : lookup σ o ≡ Some (Ordinary r)) (shut : r.extensible ≡ false) (k : PropertyKey) (q : Property) (there : own σ o k ≡ Some q) where
    define-run : (d : PropertyDescriptor) → validate false d (Some q) ≡ Becomes (applied d q) → (m : ℕ)
        → ((calls σ).define_own_property o k d).run (state a (suc (suc (suc m)))) ≡ Out.done (true, with_property σ o k (applied d q)) (state a m)
    unfolding methods ordinary_define_own_property apply_validation ◌>>=◌ next pure
    define-run d becomes m =
        ordinary-run σ o _ _ r found a (suc (suc m))
        ∙ (ap (next (λ t. (methods (suc n) (over c σ)).is_extensible o >>= λ x. apply_validation (over c σ) o k t (validate x d t))) (own-run (over c σ) o r found a n (suc m) k _ there)
        ∙ (ap (next (λ x. apply_validation (over c σ) o k (Some q) (validate x d (Some q)))) (extensible-run (over c σ) o r found a n m)
        ∙ (ap (λ (x : Bool). (apply_validation (over c σ) o k (Some q) (validate x d (Some q))).run (state a m)) shut
        ∙ applies)))
      where
        applies : (apply_validation (over c σ) o k (Some q) (validate false d (Some q))).run (state a m) ≡ Out.done (true, with_property σ o k (applied d q)) (state a m)
        applies = ap (λ (v : Validation). (apply_validation (over c σ) o k (Some q) v).run (state a m)) becomes

    or-throw-run : (d : PropertyDescriptor) → validate false d (Some q) ≡ Becomes (applied d q) → (m : ℕ)
        → (define_property_or_throw calls o k d).run σ (state a (suc (suc (suc m)))) ≡ (Out.done tt (state a m), with_property σ o k (applied d q))
    unfolding define_property_or_throw sequence.◌>>=◌ sequence.next sequence.writes throw_if sequence.pure
    or-throw-run d becomes m = ap (λ (x : Out Written). sequence.next (λ b. throw_if 32 (not b)) (written σ x).0 (written σ x).1) (define-run d becomes m)

    turn-run : (l : Level) (m : ℕ) → (turn calls o l k).run σ (state a (cost l + m)) ≡ (Out.done tt (state a m), with_property σ o k (applied (descriptor_for l q) q))
    unfolding turn freeze_property sequence.◌>>=◌ sequence.next sequence.reads
    turn-run sealed m = rw (let z : 3 + m ≡ suc (suc (suc m)) = omega arith in z) (or-throw-run sealed_descriptor (sealed-becomes q) m)
    turn-run frozen m = rw (let z : 4 + m ≡ suc (suc (suc (suc m))) = omega arith in z) (ap (λ (x : Out (Option Property)). sequence.next (λ d. elim d [ None ↦ sequence.pure (tt {0}) | Some p ↦ define_property_or_throw calls o k (frozen_descriptor p) ]) x σ) (own-run (over c σ) o r found a (suc n) (suc (suc (suc m))) k _ there)
        ∙ or-throw-run (frozen_descriptor q) (frozen-becomes q) m)

  -- each key of the list has a property
  record Ready (ks : List PropertyKey) (σ : Store) : Type 0 where
    object : OrdinaryObject
    found : lookup σ o ≡ Some (Ordinary object)
    shut : object.extensible ≡ false
    there : (k : PropertyKey) → has_key k ks ≡ true → is_absent (own σ o k) ≡ false

  first-there : (k : PropertyKey) (ks : List PropertyKey) → has_key k (k ∷ ks) ≡ true
  unfolding has_key
  first-there k ks = ap (λ (b : Bool). b || has_key k ks) (key-refl k)

  later-there : (k l : PropertyKey) (ks : List PropertyKey) → has_key l ks ≡ true → has_key l (k ∷ ks) ≡ true
  unfolding has_key
  later-there k l ks h = go (same_key k l)
    where
      go : (b : Bool) → (b || has_key l ks) ≡ true
      go true = refl
      go false = h

  still-ready : (k : PropertyKey) (ks : List PropertyKey) (σ : Store) (p : Property) → Ready (k ∷ ks) σ → Ready ks (with_property σ o k p)
  still-ready k ks σ p h = record {
    object = h.object;
    found = lookup-with σ o k p o ∙ h.found;
    shut = h.shut;
    there = λ l e. ap is_absent (own-with σ o k p o l) ∙ go (same_place o k o l) l (h.there l (later-there k l ks e));
  }
    where
      go : (b : Bool) (l : PropertyKey) → is_absent (own σ o l) ≡ false → is_absent (cond b (Some p) (own σ o l)) ≡ false
      go true l e = refl
      go false l e = e

  -- the calls of all turns
  spent : List PropertyKey → ℕ
  spent [] = 0
  spent (k ∷ ks) = cost level + spent ks

  cost-few : (l : Level) → cost l ≤ 4
  cost-few sealed = omega arith
  cost-few frozen = omega arith

  spent-few : (ks : List PropertyKey) → spent ks ≤ 4 * length ks
  unfolding spent
  spent-few [] = omega arith
  spent-few (k ∷ ks) = omega (arith, cost-few level, spent-few ks)

  turns-run : (ks : List PropertyKey) (σ : Store) → Ready ks σ → (m : ℕ) → (τ : Store) × ((for_each (turn calls o level) ks).run σ (state a (spent ks + m)) ≡ (Out.done tt (state a m), τ))
  unfolding spent for_each sequence.pure sequence.◌>>=◌ sequence.next
  turns-run [] σ h m = (σ, ap (λ (i : ℕ). (Out.done tt (state a i), σ)) (let z : 0 + m ≡ m = omega arith in z))
  turns-run (k ∷ ks) σ h m = go (own σ o k) refl (h.there k (first-there k ks)) (λ p. turns-run ks _ (still-ready k ks σ p h) m)
    where
      counts : (cost level + spent ks) + m ≡ cost level + (spent ks + m)
      counts = omega arith

      go : (d : Option Property) → own σ o k ≡ d → is_absent (own σ o k) ≡ false
          → ((p : Property) → (τ : Store) × ((for_each (turn calls o level) ks).run (with_property σ o k p) (state a (spent ks + m)) ≡ (Out.done tt (state a m), τ)))
          → (τ : Store) × ((for_each (turn calls o level) (k ∷ ks)).run σ (state a ((cost level + spent ks) + m)) ≡ (Out.done tt (state a m), τ))
      go None e f others = absurd (true≢false (sym (ap is_absent e) ∙ f))
      go (Some q) e f others =
          let rest = others (applied (descriptor_for level q) q) in
          (rest.0, rw counts (ap (λ (x : Ran (Unit {0})). sequence.next (λ _. for_each (turn calls o level) ks) x.0 x.1) (turn-run σ h.object h.found h.shut k q e level (spent ks + m)) ∙ rest.1))

  -- the object once its extensions are prevented
  abbrev prevented : OrdinaryObject → Store → Store
  prevented r σ = put σ o (Ordinary (record { prototype = r.prototype; extensible = false }))

  abbrev listing : Store → List PropertyKey
  listing σ = ordinary_own_property_keys c.strings σ o

  ready : (σ : Store) (r : OrdinaryObject) → lookup σ o ≡ Some (Ordinary r) → Ready (listing (prevented r σ)) (prevented r σ)
  ready σ r e = record {
    object = record { prototype = r.prototype; extensible = false };
    found = lookup-put σ o (Ordinary r) _ e;
    shut = refl;
    there = λ k h. gone (is_absent (own (prevented r σ) o k)) (sym (own-keys-has c.strings (prevented r σ) o k) ∙ h);
  }
    where
      gone : (b : Bool) → not b ≡ true → b ≡ false
      gone true f = absurd (false≢true f)
      gone false f = refl

  set-run : (σ : Store) (r : OrdinaryObject) → lookup σ o ≡ Some (Ordinary r) → (m : ℕ)
      → (τ : Store) × ((SetIntegrityLevel.set_integrity_level calls o level).run σ (state a (suc (suc (spent (listing (prevented r σ)) + m)))) ≡ (Out.done true (state a m), τ))
  unfolding SetIntegrityLevel.set_integrity_level sequence.◌>>=◌ sequence.next sequence.writes sequence.reads sequence.when◌then◌else◌ sequence.pure methods pure
  set-run σ r e m =
      let h = ready σ r e in
      let ks = listing (prevented r σ) in
      let rest = turns-run ks (prevented r σ) h m in
      let status : Bool → Sequence Bool = λ b. sequence.when◌then◌else◌ (not b) (sequence.pure false) (sequence.◌>>=◌ (sequence.reads (λ υ. (calls υ).own_property_keys o)) (λ keys. sequence.◌>>=◌ (for_each (turn calls o level) keys) (λ _. sequence.pure true))) in (
        rest.0,
        ap (λ (x : Out Written). sequence.next status (written σ x).0 (written σ x).1) (ordinary-run σ o (λ s. pure (ordinary_prevent_extensions σ o s)) (λ p. proxy_prevent_extensions (over c σ) (methods (suc n) (over c σ)) p) r e a (suc (spent ks + m)))
            ∙ (ap (λ (x : Out (List PropertyKey)). sequence.next (λ keys. sequence.◌>>=◌ (for_each (turn calls o level) keys) (λ _. sequence.pure true)) x (prevented r σ)) (keys-run (over c (prevented r σ)) o h.object h.found a (suc n) (spent ks + m))
            ∙ ap (λ (x : Ran (Unit {0})). sequence.next (λ _. sequence.pure true) x.0 x.1) rest.1),
      )

  perform-succeeds : (r : OrdinaryObject) → lookup c.store o ≡ Some (Ordinary r) → (m : ℕ)
      → (τ : Store) × ((perform (suc (suc n)) c (set_integrity_level o level)).run (state a (suc (suc (spent (listing c.store) + m)))) ≡ (Out.done (boolean true) (state a m), τ))
  unfolding perform in_turn sequence.◌>>=◌ sequence.next sequence.pure
  perform-succeeds r e m =
      let s = set-run c.store r e m in (
        s.0,
        ap (λ (i : ℕ). sequence.next (λ b. sequence.pure (boolean b)) ((SetIntegrityLevel.set_integrity_level calls o level).run c.store (state a (suc (suc (i + m))))).0 ((SetIntegrityLevel.set_integrity_level calls o level).run c.store (state a (suc (suc (i + m))))).1) (sym (ap spent (same_keys r)))
            ∙ ap (λ (x : Ran Bool). sequence.next (λ b. sequence.pure (boolean b)) x.0 x.1) s.1,
      )
    where
      same_keys : (r : OrdinaryObject) → listing (prevented r c.store) ≡ listing c.store
      same_keys r = listing-put c.strings c.store o _

-- all hold of every step, in any world
pub integrity-holds : (ω : World) (bytes sheet output : List ℕ) → IntegrityHolds ω bytes sheet output
unfolding ran
integrity-holds ω bytes sheet output = record {
  sets = λ o level r found asks ending.
      let d = resulted (boolean true) (ends ω bytes sheet output) ending in
      let runs : (perform maximum_calls (context_of ω) (set_integrity_level o level)).run (state (sheet_of sheet) maximum_calls) ≡ (Out.done (boolean true) d.rest, d.store) = ap (λ (x : Operation). (perform maximum_calls (context_of ω) x).run (state (sheet_of sheet) maximum_calls)) (sym asks) ∙ d.runs in
      subst (λ (υ : World). HasLevel level υ.store o) (sym d.world) (perform-sets maximum_calls (context_of ω) o level r found _ d.rest d.store runs);
  succeeds = λ o level r found passes empty asks fits.
      let ks = ordinary_own_property_keys ω.strings ω.store o in
      let m = maximum_calls - (2 + spent (context_of ω) o level (sheet_of sheet) 2046 ks) in
      let counts : suc (suc (spent (context_of ω) o level (sheet_of sheet) 2046 ks + m)) ≡ maximum_calls = omega (arith, fits, spent-few (context_of ω) o level (sheet_of sheet) 2046 ks) in
      let s = perform-succeeds (context_of ω) o level (sheet_of sheet) 2046 r found m in
      let runs : ran ω bytes sheet ≡ (Out.done (boolean true) (state (sheet_of sheet) m), s.0) = ap (λ (x : Operation). (perform maximum_calls (context_of ω) x).run (state (sheet_of sheet) maximum_calls)) asks
      ∙ (ap (λ (i : ℕ). (perform maximum_calls (context_of ω) (set_integrity_level o level)).run (state (sheet_of sheet) i)) (sym counts) ∙ s.1) in
      step-done ω bytes sheet output _ _ _ passes runs empty refl;
  means = λ o level r found asks ending.
      let d = resulted (boolean true) (ends ω bytes sheet output) ending in
      perform-means maximum_calls (context_of ω) o level r found _ d.rest d.store (ap (λ (x : Operation). (perform maximum_calls (context_of ω) x).run (state (sheet_of sheet) maximum_calls)) (sym asks) ∙ d.runs);
  tells = λ o level tested has covered passes empty asks fits.
      let m = maximum_calls - (2 + length (ordinary_own_property_keys ω.strings ω.store o)) in
      let counts : suc (suc (length (ordinary_own_property_keys ω.strings ω.store o) + m)) ≡ maximum_calls = omega (arith, fits) in
      let runs : ran ω bytes sheet ≡ (Out.done (boolean true) (state (sheet_of sheet) m), ω.store) = ap (λ (x : Operation). (perform maximum_calls (context_of ω) x).run (state (sheet_of sheet) maximum_calls)) asks
      ∙ (ap (λ (i : ℕ). (perform maximum_calls (context_of ω) (test_integrity_level o tested)).run (state (sheet_of sheet) i)) (sym counts) ∙ perform-tells (context_of ω) o level tested has covered (sheet_of sheet) 2047 m) in
      step-done ω bytes sheet output _ _ _ passes runs empty refl;
}
