-- What holds of every own key lasts, where it holds of a key that is defined or the object is not extensible. Assumes nothing.
use Rattle.std.specs.Prelude.{Option, None, Some}
use Prim.Native.Nat.{ℕ, zero, suc}
use mathlib.Core.Path.{◌≡◌, refl, sym, ◌∙◌, subst}
use mathlib.Core.Bool.{Bool, true, false, not, cond, false≢true, true≢false}
use lib.Dec.{eqb}
use lib.ListN.{length}
use Rattle.value.specs.declared.Value.{Value}
use Rattle.value.specs.declared.PropertyKey.{PropertyKey}
use Rattle.value.specs.Value.{object_of, same_value}
use Rattle.property.specs.declared.PropertyDescriptor.{PropertyDescriptor}
use Rattle.property.specs.declared.Property.{Property}
use Rattle.property.specs.declared.Property.TheVariants.{Data, Accessor}
use Rattle.property.specs.declared.Validation.{Validation}
use Rattle.property.specs.declared.Validation.TheVariants.{Rejected, Unchanged, Becomes}
use Rattle.property.specs.Validate.{validate}
use Rattle.property.proofs.ValidateLaws.{validate-adds}
use Rattle.store.specs.declared.OrdinaryObject.{OrdinaryObject}
use Rattle.store.specs.declared.Object.{Object}
use Rattle.store.specs.Store.{Store, put, add, own, with_property, without_property}
use Rattle.store.specs.Release.{release}
use Rattle.store.proofs.StoreLaws.{same_place, place-eq, own_put, own-add, own-with, own-without}
use Rattle.store.proofs.ReleaseLaws.{own-released}
use Rattle.internal_methods.specs.Methods.{Context, Written}
use Rattle.internal_methods.specs.Ordinary.{reaches, with_prototype, ordinary_set_prototype_of, apply_validation, ordinary_define_own_property, set_on_receiver, set_data, ordinary_set, ordinary_delete}
use Rattle.internal_methods.specs.Proxy.{proxy_set_prototype_of, proxy_prevent_extensions, proxy_define_own_property, proxy_set, proxy_delete}
use Rattle.internal_methods.specs.Internal.{methods}
use Rattle.internal_methods.proofs.Ensures.{Ensures, ensures-pure, ensures-fails, ensures-bind, ensures-if, ensures-throw_if, ensures-then, ensures-option, ensures-dispatch}
use Rattle.internal_methods.proofs.Base.{Base, here, over, Shut}
use Rattle.internal_methods.proofs.Reading.{is_extensible-exact, get_own_property-exact}

-- P holds of every own key
pub record OwnKeys (P : PropertyKey → Type 0) (σ : Store) : Type 0 where
  pub holds : (o : ℕ) (k : PropertyKey) (p : Property) → own σ o k ≡ Some p → P k

-- P holds of k where it may be added to o: the base of o is not extensible, or P holds of k
pub record Addable (P : PropertyKey → Type 0) (σ : Store) (o : ℕ) (k : PropertyKey) : Type 0 where
  pub holds : (b : ℕ) (r : OrdinaryObject) → Base σ o b r → r.extensible ≡ true → P k

module _ {P : PropertyKey → Type 0} where
  pub addable-key : {σ : Store} {o : ℕ} {k : PropertyKey} → P k → Addable P σ o k
  addable-key h = record { holds = λ b r _ _. h }

  pub addable-shut : {σ : Store} {o : ℕ} (k : PropertyKey) → Shut σ o → Addable P σ o k
  addable-shut k shut = record { holds = λ b r base e. absurd (true≢false (sym e ∙ shut.at base)) }

  -- The stores that methods leave ---------------------------------------------------------

  pub keys-put : (σ : Store) (o : ℕ) (x : Object) → OwnKeys P σ → OwnKeys P (put σ o x)
  keys-put σ o x h = record { holds = λ b l q e. h.holds b l q (sym (own_put σ o x b l) ∙ e) }

  pub keys-add : (σ : Store) (x : Object) (c : Bool) → OwnKeys P σ → OwnKeys P (add σ x c)
  keys-add σ x c h = record { holds = λ b l q e. h.holds b l q (sym (own-add σ x c b l) ∙ e) }

  pub keys-released : (σ : Store) (o : ℕ) → OwnKeys P σ → OwnKeys P (release σ o)
  keys-released σ o h = record { holds = λ b l q e. go b l q (eqb o b) (sym (own-released σ o b l) ∙ e) }
    where
      go : (b : ℕ) (l : PropertyKey) (q : Property) (t : Bool) → cond t None (own σ b l) ≡ Some q → P l
      go b l q true e = absurd (false≢true cc)
      go b l q false e = h.holds b l q e

  keys_with : (σ : Store) (o : ℕ) (k : PropertyKey) (p : Property) → P k → OwnKeys P σ → OwnKeys P (with_property σ o k p)
  keys_with σ o k p m h = record { holds = λ b l q e. go b l q (same_place o k b l) refl (sym (own-with σ o k p b l) ∙ e) }
    where
      go : (b : ℕ) (l : PropertyKey) (q : Property) (t : Bool) → same_place o k b l ≡ t → cond t (Some p) (own σ b l) ≡ Some q → P l
      go b l q true s e = subst P (place-eq o k b l s).1 m
      go b l q false s e = h.holds b l q e

  keys-without : (σ : Store) (o : ℕ) (k : PropertyKey) → OwnKeys P σ → OwnKeys P (without_property σ o k)
  keys-without σ o k h = record { holds = λ b l q e. go b l q (same_place o k b l) (sym (own-without σ o k b l) ∙ e) }
    where
      go : (b : ℕ) (l : PropertyKey) (q : Property) (t : Bool) → cond t None (own σ b l) ≡ Some q → P l
      go b l q true e = absurd (false≢true cc)
      go b l q false e = h.holds b l q e

-- The methods that write ------------------------------------------------------------------

module _ {P : PropertyKey → Type 0} (c : Context) (h : OwnKeys P c.store) where
  abbrev KeysIn : Written → Type 0
  KeysIn a = OwnKeys P a.1

  ordinary_set_prototype_of-keys : (o : ℕ) (r : OrdinaryObject) (v : Value) → KeysIn (ordinary_set_prototype_of c.store o r v)
  unfolding ordinary_set_prototype_of
  ordinary_set_prototype_of-keys o r v = go (same_value v r.prototype) (not r.extensible) (reaches (length c.store.objects) c.store o v)
    where
      go : (same fixed cyclic : Bool) → KeysIn (cond same (true, c.store) (cond fixed (false, c.store) (cond cyclic (false, c.store) (true, put c.store o (with_prototype r v)))))
      go true fixed cyclic = h
      go false true cyclic = h
      go false false true = h
      go false false false = keys-put c.store o _ h

  pub set_prototype_of-keys : (n o : ℕ) (v : Value) → Ensures ((methods n c).set_prototype_of o v) KeysIn
  unfolding methods proxy_set_prototype_of
  set_prototype_of-keys zero o v = ensures-fails _
  set_prototype_of-keys (suc n) o v = ensures-dispatch c.store o
      (λ r e. ensures-pure _ (ordinary_set_prototype_of-keys o r v))
      (λ p e. ensures-if _
      (λ _. set_prototype_of-keys n p.target v)
      (λ _. ensures-then _ λ answer. ensures-if _
      (λ _. ensures-pure _ h)
      (λ _. ensures-then _ λ extensible. ensures-if _
      (λ _. ensures-pure _ h)
      (λ _. ensures-then _ λ prototype. ensures-throw_if _ _ λ _. ensures-pure _ h))))

  pub prevent_extensions-keys : (n o : ℕ) → Ensures ((methods n c).prevent_extensions o) KeysIn
  unfolding methods proxy_prevent_extensions
  prevent_extensions-keys zero o = ensures-fails _
  prevent_extensions-keys (suc n) o = ensures-dispatch c.store o
      (λ r e. ensures-pure _ (keys-put c.store o _ h))
      (λ p e. ensures-if _
      (λ _. prevent_extensions-keys n p.target)
      (λ _. ensures-then _ λ answer. ensures-if _
      (λ _. ensures-pure _ h)
      (λ _. ensures-then _ λ extensible. ensures-throw_if _ _ λ _. ensures-pure _ h)))

  apply_validation-keys : (o : ℕ) (k : PropertyKey) (d : PropertyDescriptor) (x : Bool) → (x ≡ true → P k) → (current : Option Property) → current ≡ own c.store o k
      → (v : Validation) → validate x d current ≡ v → Ensures (apply_validation c o k current v) KeysIn
  unfolding apply_validation
  apply_validation-keys o k d x m current f (Rejected t) e = ensures-pure _ h
  apply_validation-keys o k d x m current f Unchanged e = ensures-pure _ h
  apply_validation-keys o k d true m None f (Becomes p) e = ensures-if _ (λ _. ensures-fails _) (λ _. ensures-pure _ (keys_with c.store o k p (m refl) h))
  apply_validation-keys o k d false m None f (Becomes p) e = absurd (validate-adds false d None p e refl refl)
  apply_validation-keys o k d x m (Some q) f (Becomes p) e = ensures-pure _ (keys_with c.store o k p (h.holds o k q (sym f)) h)

  pub define_own_property-keys : (n o : ℕ) (k : PropertyKey) (d : PropertyDescriptor) → Addable P c.store o k → Ensures ((methods n c).define_own_property o k d) KeysIn
  unfolding methods ordinary_define_own_property proxy_define_own_property
  define_own_property-keys zero o k d m = ensures-fails _
  define_own_property-keys (suc n) o k d m = ensures-dispatch c.store o
      (λ r e.
      ensures-bind (get_own_property-exact n c o k r e) λ current f.
      ensures-bind (is_extensible-exact n c o r e) λ x g.
      apply_validation-keys o k d x (λ t. m.holds o r (here e) (sym g ∙ t)) current f _ refl)
      (λ p e. ensures-if _
      (λ _. define_own_property-keys n p.target k d (record { holds = λ b r base. m.holds b r (over e base) }))
      (λ _. ensures-then _ λ answer. ensures-if _
      (λ _. ensures-pure _ h)
      (λ _. ensures-then _ (elim [
        | None ↦ ensures-then _ λ extensible. ensures-throw_if _ _ λ _. ensures-throw_if _ _ λ _. ensures-pure _ h
        | Some t ↦ ensures-then _ λ extensible. ensures-throw_if _ _ λ _. ensures-throw_if _ _ λ _. ensures-throw_if _ _ λ _. ensures-pure _ h
      ]))))

  -- [[Set]] defines its own key, on whatever object
  module _ (k : PropertyKey) (m : P k) where
    set_on_receiver-keys : (n : ℕ) (v : Value) (o : ℕ) → Ensures (set_on_receiver c (methods n c) k v o) KeysIn
    unfolding set_on_receiver
    set_on_receiver-keys n v o = ensures-then _ (elim [
      | None ↦ define_own_property-keys n o k _ (addable-key m)
      | Some (Accessor g s e f) ↦ ensures-pure _ h
      | Some (Data w wr e f) ↦ ensures-if _ (λ _. ensures-pure _ h) (λ _. define_own_property-keys n o k _ (addable-key m))
    ])

    set_data-keys : (n : ℕ) (v : Value) (writable : Bool) (receiver : Value) → Ensures (set_data c (methods n c) k v writable receiver) KeysIn
    unfolding set_data
    set_data-keys n v writable receiver = ensures-if _
        (λ _. ensures-pure _ h)
        (λ _. ensures-option (object_of receiver) (ensures-pure _ h) (λ q. set_on_receiver-keys n v q))

    pub set-keys : (n o : ℕ) (v receiver : Value) → Ensures ((methods n c).set o k v receiver) KeysIn
    unfolding methods ordinary_set proxy_set
    set-keys zero o v receiver = ensures-fails _
    set-keys (suc n) o v receiver = ensures-dispatch c.store o
        (λ r e. ensures-then _ (elim [
          | None ↦ ensures-then _ λ parent. ensures-option (object_of parent) (set_data-keys n v true receiver) (λ q. set-keys n q v receiver)
          | Some (Data w wr en co) ↦ set_data-keys n v wr receiver
          | Some (Accessor g s en co) ↦ ensures-if _ (λ _. ensures-pure _ h) (λ _. ensures-then _ λ _. ensures-pure _ h)
        ]))
        (λ p e. ensures-if _
        (λ _. set-keys n p.target v receiver)
        (λ _. ensures-then _ λ answer. ensures-if _
        (λ _. ensures-pure _ h)
        (λ _. ensures-then _ λ target. ensures-throw_if _ _ λ _. ensures-throw_if _ _ λ _. ensures-pure _ h)))

  pub delete-keys : (n o : ℕ) (k : PropertyKey) → Ensures ((methods n c).delete o k) KeysIn
  unfolding methods ordinary_delete proxy_delete
  delete-keys zero o k = ensures-fails _
  delete-keys (suc n) o k = ensures-dispatch c.store o
      (λ r e. ensures-then _ (elim [
        | None ↦ ensures-pure _ h
        | Some p ↦ ensures-if _ (λ _. ensures-pure _ (keys-without c.store o k h)) (λ _. ensures-pure _ h)
      ]))
      (λ p e. ensures-if _
      (λ _. delete-keys n p.target k)
      (λ _. ensures-then _ λ answer. ensures-if _
      (λ _. ensures-pure _ h)
      (λ _. ensures-then _ (elim [
        | None ↦ ensures-pure _ h
        | Some t ↦ ensures-throw_if _ _ λ _. ensures-then _ λ extensible. ensures-throw_if _ _ λ _. ensures-pure _ h
      ]))))
