-- What the methods that write do to a store, and what their answer `true` says. Assumes nothing.
use Rattle.std.specs.Prelude.{Option, None, Some}
use Prim.Native.Nat.{ℕ, suc, zero}
use mathlib.Core.Path.{◌≡◌, refl, sym, ap, ◌∙◌, subst}
use mathlib.Core.Bool.{Bool, true, false, not, cond, false≢true, true≢false}
use lib.ListN.{length}
use borrow.Author.Tests.{not-false}
use Rattle.value.specs.declared.Value.{Value}
use Rattle.value.specs.declared.PropertyKey.{PropertyKey}
use Rattle.value.specs.Value.{same_value, object_of}
use Rattle.value.proofs.Bools.{and-false-left, and-false-right}
use Rattle.property.specs.declared.PropertyDescriptor.{PropertyDescriptor}
use Rattle.property.specs.declared.Property.{Property}
use Rattle.property.specs.declared.Property.TheVariants.{Data, Accessor}
use Rattle.property.specs.declared.Validation.{Validation}
use Rattle.property.specs.declared.Validation.TheVariants.{Rejected, Unchanged, Becomes}
use Rattle.property.specs.Fields.{configurable}
use Rattle.property.specs.Validate.{validate, is_compatible}
use Rattle.property.proofs.ValidateLaws.{configurable-not-frozen, AsksFrozen, validate-keeps, validate-adds, validate-refuses, validate-gives, validate-unchanged}
use Rattle.store.specs.declared.OrdinaryObject.{OrdinaryObject}
use Rattle.store.specs.declared.Object.TheVariants.{Ordinary}
use Rattle.store.specs.Store.{Store, lookup, put, own, with_property, without_property}
use Rattle.store.proofs.StoreLaws.{place-refl, lookup-put, lookup-with, lookup-without, own-with, own-without}
use Rattle.internal_methods.specs.Methods.{Context, Written}
use Rattle.internal_methods.specs.Ordinary.{reaches, ordinary_set_prototype_of, apply_validation, ordinary_define_own_property, set_on_receiver, set_data, ordinary_set, ordinary_delete, with_prototype}
use Rattle.internal_methods.specs.Proxy.{proxy_set_prototype_of, proxy_prevent_extensions, proxy_define_own_property, proxy_set, proxy_delete}
use Rattle.internal_methods.specs.Internal.{methods}
use Rattle.internal_methods.proofs.Ensures.{Ensures, ensures-pure, ensures-fails, ensures-bind, ensures-if, ensures-throw_if, ensures-then, ensures-weaken, ensures-both, ensures-option, ensures-dispatch}
use Rattle.internal_methods.proofs.Base.{frozen_as, here, on-base, through, on-proxy, at_target, Frozen, Shut, Lacking}
use Rattle.internal_methods.proofs.Later.{Remains, remains-refl, remains-object, remains-with, remains-without, through-later}
use Rattle.internal_methods.proofs.Tied.{asked-frozen}
use Rattle.internal_methods.proofs.Reading.{is_extensible-report, is_extensible-exact, Faithful, get_own_property-report, get_own_property-exact, frozen-learnt, frozen-told, lacking-learnt, lacking-told, fixed-value, SamePrototype, loose-prototype, same-prototype, get_prototype_of-report}

-- every object lasts, and an answer `true` says P of the store after it
pub record Changed (σ : Store) (P : Store → Type 0) (a : Written) : Type 0 where
  pub remains : Remains σ a.1
  pub says : a.0 ≡ true → P a.1

-- nothing changed
true-idle : {σ : Store} {P : Store → Type 0} → P σ → Changed σ P (true, σ)
true-idle {σ} h = record { remains = remains-refl σ; says = λ _. h }

false-idle : {σ : Store} {P : Store → Type 0} → Changed σ P (false, σ)
false-idle {σ} = record { remains = remains-refl σ; says = λ h. absurd (false≢true h) }

-- [[PreventExtensions]]

pub prevent_extensions-report : (n : ℕ) (c : Context) (o : ℕ) → Ensures ((methods n c).prevent_extensions o) (Changed c.store (λ τ. Shut τ o))
unfolding methods proxy_prevent_extensions
prevent_extensions-report zero c o = ensures-fails _
prevent_extensions-report (suc n) c o = ensures-dispatch c.store o
    (λ r e. ensures-pure _ (record {
      remains = remains-object c.store o r _ e (λ _. refl) (λ _. refl);
      says = λ _. on-base (record {
        number = o;
        object = record { prototype = r.prototype; extensible = false };
        base = here (lookup-put c.store o (Ordinary r) _ e);
        holds = refl;
      });
    }))
    (λ p e. ensures-if _
    (λ _. ensures-weaken (prevent_extensions-report n c p.target) (λ a h. record { remains = h.remains; says = λ t. through-later h.remains.grows e (h.says t) }))
    (λ _. ensures-then _ λ answer. ensures-if _
    (λ _. ensures-pure _ false-idle)
    (λ _. ensures-bind (is_extensible-report n c p.target) λ x u.
    ensures-throw_if _ _ λ shut.
    ensures-pure _ (true-idle (on-base (through e (record { number = u.number; object = u.object; base = u.base; holds = sym u.holds ∙ shut })))))))

-- [[DefineOwnProperty]]

-- no key is added to an object that is not extensible, and what is asked to be frozen is
pub record Defined (σ : Store) (o : ℕ) (k : PropertyKey) (d : PropertyDescriptor) (τ : Store) : Type 0 where
  pub there : Lacking σ o k → ⊥
  pub froze : (w : Value) → AsksFrozen d w → Frozen τ o k w

module _ (c : Context) (o : ℕ) (r : OrdinaryObject) (k : PropertyKey) (d : PropertyDescriptor) (e : lookup c.store o ≡ Some (Ordinary r)) where
  becomes-report : (p : Property) → validate r.extensible d (own c.store o k) ≡ Becomes p
      → Changed c.store (Defined c.store o k d) (true, with_property c.store o k p)
  becomes-report p h = record {
    remains = remains-with c.store o r k p e (validate-keeps r.extensible d _ p h) (validate-adds r.extensible d _ p h);
    says = λ _. record {
      there = λ u. let b = u.at (here e) in validate-adds r.extensible d _ p h b.0 b.1;
      froze = λ w a. on-base (record {
        number = o;
        object = r;
        base = here (lookup-with c.store o k p o ∙ e);
        holds = rw (own-with c.store o k p o k, place-refl o k) (validate-gives r.extensible d _ p w h a);
      });
    };
  }

  -- t only decides whether a full store refuses
  apply-report : (v : Validation) → validate r.extensible d (own c.store o k) ≡ v → (t : Option Property)
      → Ensures (apply_validation c o k t v) (Changed c.store (Defined c.store o k d))
  unfolding apply_validation is_compatible
  apply-report (Rejected n) h t = ensures-pure _ false-idle
  apply-report Unchanged h t = ensures-pure _ (true-idle (record {
    there = λ u. let b = u.at (here e) in validate-refuses r.extensible d (own c.store o k) (rw h) b.0 b.1;
    froze = λ w a. on-base (record { number = o; object = r; base = here e; holds = validate-unchanged r.extensible d _ w h a });
  }))
  apply-report (Becomes p) h None = ensures-if _ (λ _. ensures-fails _) (λ _. ensures-pure _ (becomes-report p h))
  apply-report (Becomes p) h (Some q) = ensures-pure _ (becomes-report p h)

pub define_own_property-report : (n : ℕ) (c : Context) (o : ℕ) (k : PropertyKey) (d : PropertyDescriptor)
    → Ensures ((methods n c).define_own_property o k d) (Changed c.store (Defined c.store o k d))
unfolding methods ordinary_define_own_property proxy_define_own_property
define_own_property-report zero c o k d = ensures-fails _
define_own_property-report (suc n) c o k d = ensures-dispatch c.store o
    (λ r e.
    ensures-bind (get_own_property-exact n c o k r e) λ t f.
    ensures-bind (is_extensible-exact n c o r e) λ x g.
    apply-report c o r k d e (validate x d t) (rw (f, g)) t)
    (λ p e. ensures-if _
    (λ _. ensures-weaken (define_own_property-report n c p.target k d) (λ a h. record {
      remains = h.remains;
      says = λ t. record {
        there = λ u. (h.says t).there (at_target e u);
        froze = λ w f. through-later h.remains.grows e ((h.says t).froze w f);
      };
    }))
    (λ _. ensures-then _ λ answer. ensures-if _
    (λ _. ensures-pure _ false-idle)
    (λ _. ensures-bind (get_own_property-report n c p.target k) (elim [
      | None ↦ λ f. ensures-bind (is_extensible-report n c p.target) λ x u.
          ensures-throw_if _ _ λ fourteen-a.
          ensures-throw_if _ _ λ fourteen-b.
          ensures-pure _ (true-idle (record {
            there = λ w. true≢false (sym (not-false x fourteen-a) ∙ u.holds ∙ ((at_target e w).at u.base).0);
            froze = λ w a. absurd (true≢false (sym a.lasting ∙ fourteen-b));
          }))
      | Some t ↦ λ f. ensures-bind (is_extensible-report n c p.target) λ x u.
          ensures-throw_if _ _ λ fifteen-a.
          ensures-throw_if _ _ λ fifteen-b.
          ensures-throw_if _ _ λ fifteen-c.
          ensures-pure _ (true-idle (record {
            there = λ w. false≢true (lacking-told k (Some t) f (at_target e w));
            froze = λ w a.
                let fixed = and-false-right _ _ a.lasting fifteen-b in
                let read_only_lem = and-false-left _ _ a.fixed (and-false-right _ _ (ap not fixed) fifteen-c) in
                on-proxy e.found (frozen-learnt k (Some t) w f (asked-frozen x d t w a (not-false _ fifteen-a) fixed read_only_lem));
          }))
    ]))))

-- [[Delete]]

-- it was not frozen, and is gone from an object that is not extensible
pub record Gone (σ : Store) (o : ℕ) (k : PropertyKey) (τ : Store) : Type 0 where
  pub loose : (v : Value) → Frozen σ o k v → ⊥
  pub gone : Shut σ o → Lacking τ o k

-- no own property is reported
gone-absent : {σ : Store} {o : ℕ} (k : PropertyKey) → Faithful σ o k None → Gone σ o k σ
gone-absent k f = record { loose = λ v u. false≢true (frozen-told k None v f u); gone = λ shut. lacking-learnt k f shut }

removed-report : (σ : Store) (o : ℕ) (r : OrdinaryObject) (k : PropertyKey) (p : Property) → lookup σ o ≡ Some (Ordinary r)
    → Some p ≡ own σ o k → configurable p ≡ true → Changed σ (Gone σ o k) (true, without_property σ o k)
removed-report σ o r k p e f h =
    let unfrozen : (v : Value) → frozen_as v (own σ o k) ≡ false = λ v. subst (λ (t : Option Property). frozen_as v t ≡ false) f (configurable-not-frozen p v h) in
    record {
      remains = remains-without σ o r k e unfrozen;
      says = λ _. record {
        loose = λ v u. false≢true (sym (unfrozen v) ∙ u.at (here e));
        gone = λ shut. on-base (record {
          number = o;
          object = r;
          base = here (lookup-without σ o k o ∙ e);
          holds = (shut.at (here e), rw (own-without σ o k o k, place-refl o k));
        });
      };
    }

pub delete-report : (n : ℕ) (c : Context) (o : ℕ) (k : PropertyKey) → Ensures ((methods n c).delete o k) (Changed c.store (Gone c.store o k))
unfolding methods ordinary_delete proxy_delete
delete-report zero c o k = ensures-fails _
delete-report (suc n) c o k = ensures-dispatch c.store o
    (λ r e. ensures-bind (ensures-both (get_own_property-report n c o k) (get_own_property-exact n c o k r e)) (elim [
      | None ↦ λ f. ensures-pure _ (true-idle (gone-absent k f.0))
      | Some p ↦ λ f. ensures-if _ (λ h. ensures-pure _ (removed-report c.store o r k p e f.1 h)) (λ _. ensures-pure _ false-idle)
    ]))
    (λ p e. ensures-if _
    (λ _. ensures-weaken (delete-report n c p.target k) (λ a h. record {
      remains = h.remains;
      says = λ t. record {
        loose = λ v u. (h.says t).loose v (at_target e u);
        gone = λ shut. through-later h.remains.grows e ((h.says t).gone (at_target e shut));
      };
    }))
    (λ _. ensures-then _ λ answer. ensures-if _
    (λ _. ensures-pure _ false-idle)
    (λ _. ensures-bind (get_own_property-report n c p.target k) (elim [
      | None ↦ λ f. ensures-pure _ (true-idle (gone-absent k (through e f)))
      | Some t ↦ λ f.
          ensures-throw_if _ _ λ eleven.
          ensures-bind (is_extensible-report n c p.target) λ x u.
          ensures-throw_if _ _ λ thirteen.
          ensures-pure _ (true-idle (record {
            loose = λ v w. false≢true (sym (configurable-not-frozen t v (not-false _ eleven)) ∙ frozen-told k (Some t) v f (at_target e w));
            gone = λ shut. absurd (true≢false (sym (not-false x thirteen) ∙ u.holds ∙ (at_target e shut).at u.base));
          }))
    ]))))

-- [[SetPrototypeOf]]

ordinary_set_prototype_of-report : (σ : Store) (o : ℕ) (r : OrdinaryObject) (v : Value) → lookup σ o ≡ Some (Ordinary r)
    → Changed σ (λ _. SamePrototype σ o v) (ordinary_set_prototype_of σ o r v)
unfolding ordinary_set_prototype_of
ordinary_set_prototype_of-report σ o r v e = go _ refl _ refl (reaches (length σ.objects) σ o v)
  where
    go : (s : Bool) → same_value v r.prototype ≡ s → (x : Bool) → r.extensible ≡ x → (loop : Bool)
        → Changed σ (λ _. SamePrototype σ o v) (cond s (true, σ) (cond (not x) (false, σ) (cond loop (false, σ) (true, put σ o (with_prototype r v)))))
    go true two x h loop = true-idle (record { number = o; object = r; base = here e; holds = λ _. two })
    go false two false h loop = false-idle
    go false two true h true = false-idle
    go false two true h false = record {
      remains = remains-object σ o r _ e (λ f. f) (λ f. absurd (true≢false (sym h ∙ f)));
      says = λ _. loose-prototype v r.extensible h (record { number = o; object = r; base = here e; holds = refl });
    }

pub set_prototype_of-report : (n : ℕ) (c : Context) (o : ℕ) (v : Value) → Ensures ((methods n c).set_prototype_of o v) (Changed c.store (λ _. SamePrototype c.store o v))
unfolding methods proxy_set_prototype_of
set_prototype_of-report zero c o v = ensures-fails _
set_prototype_of-report (suc n) c o v = ensures-dispatch c.store o
    (λ r e. ensures-pure _ (ordinary_set_prototype_of-report c.store o r v e))
    (λ p e. ensures-if _
    (λ _. ensures-weaken (set_prototype_of-report n c p.target v) (λ a h. record { remains = h.remains; says = λ t. through e (h.says t) }))
    (λ _. ensures-then _ λ answer. ensures-if _
    (λ _. ensures-pure _ false-idle)
    (λ _. ensures-bind (is_extensible-report n c p.target) λ x u. ensures-if x
    (λ extensible. ensures-pure _ (true-idle (through e (loose-prototype v x extensible u))))
    (λ _. ensures-bind (get_prototype_of-report n c p.target) λ t w.
    ensures-throw_if _ _ λ twelve.
    ensures-pure _ (true-idle (through e (same-prototype v t twelve w)))))))

-- [[Set]]

-- the value is the frozen one
abbrev pub Settable : Store → ℕ → PropertyKey → Value → Type 0
Settable σ o k v = (w : Value) → Frozen σ o k w → same_value v w ≡ true

set_on_receiver-report : (n : ℕ) (c : Context) (k : PropertyKey) (v : Value) (o : ℕ) → Ensures (set_on_receiver c (methods n c) k v o) (λ a. Remains c.store a.1)
unfolding set_on_receiver
set_on_receiver-report n c k v o = ensures-then _ (elim [
  | None ↦ ensures-weaken (define_own_property-report n c o k _) (λ a h. h.remains)
  | Some (Accessor g s e f) ↦ ensures-pure _ (remains-refl c.store)
  | Some (Data w wr e f) ↦ ensures-if _ (λ _. ensures-pure _ (remains-refl c.store)) (λ _. ensures-weaken (define_own_property-report n c o k _) (λ a h. h.remains))
])

-- an own property is reported that is not frozen
unfrozen : {σ : Store} {o : ℕ} (k : PropertyKey) (v : Value) (d : Option Property) (a : Written) → Faithful σ o k d → ((w : Value) → frozen_as w d ≡ false) → Remains σ a.1
    → Changed σ (λ _. Settable σ o k v) a
unfrozen k v d a f h g = record { remains = g; says = λ _ w u. absurd (false≢true (sym (h w) ∙ frozen-told k d w f u)) }

writable-not-frozen : (w u : Value) (wr e c : Bool) → wr ≡ true → frozen_as u (Some (Data w wr e c)) ≡ false
writable-not-frozen w u true e c h = refl
writable-not-frozen w u false e c h = absurd (false≢true h)

set_data-report : (n : ℕ) (c : Context) (o : ℕ) (k : PropertyKey) (v : Value) (writable : Bool) (receiver : Value) (d : Option Property) → Faithful c.store o k d
    → (writable ≡ true → (w : Value) → frozen_as w d ≡ false) → Ensures (set_data c (methods n c) k v writable receiver) (Changed c.store (λ _. Settable c.store o k v))
unfolding set_data
set_data-report n c o k v writable receiver d f h = ensures-if _
    (λ _. ensures-pure _ false-idle)
    (λ t. ensures-option (object_of receiver)
    (ensures-pure _ false-idle)
    (λ q. ensures-weaken (set_on_receiver-report n c k v q) (λ a g. unfrozen k v d a f (h (not-false _ t)) g)))

pub set-report : (n : ℕ) (c : Context) (o : ℕ) (k : PropertyKey) (v receiver : Value) → Ensures ((methods n c).set o k v receiver) (Changed c.store (λ _. Settable c.store o k v))
unfolding methods ordinary_set proxy_set
set-report zero c o k v receiver = ensures-fails _
set-report (suc n) c o k v receiver = ensures-dispatch c.store o
    (λ r e. ensures-bind (get_own_property-report n c o k) (elim [
      | None ↦ λ f. ensures-then _ λ parent. ensures-option (object_of parent)
          (set_data-report n c o k v true receiver None f (λ _ _. refl))
          (λ q. ensures-weaken (set-report n c q k v receiver) (λ a h. unfrozen k v None a f (λ _. refl) h.remains))
      | Some (Data w wr en co) ↦ λ f. set_data-report n c o k v wr receiver _ f (λ t u. writable-not-frozen w u wr en co t)
      | Some (Accessor g s en co) ↦ λ f. ensures-if _
          (λ _. ensures-pure _ false-idle)
          (λ _. ensures-then _ λ _. ensures-pure _ (unfrozen k v _ (true, c.store) f (λ _. refl) (remains-refl c.store)))
    ]))
    (λ p e. ensures-if _
    (λ _. ensures-weaken (set-report n c p.target k v receiver) (λ a h. record { remains = h.remains; says = λ t w u. h.says t w (at_target e u) }))
    (λ _. ensures-then _ λ answer. ensures-if _
    (λ _. ensures-pure _ false-idle)
    (λ _. ensures-bind (get_own_property-report n c p.target k) λ target f.
    ensures-throw_if _ _ λ ten-a.
    ensures-throw_if _ _ λ _.
    ensures-pure _ (true-idle (λ w u. fixed-value target v w ten-a (frozen-told k target w f (at_target e u)))))))
