-- What [[OwnPropertyKeys]] reports of an object is so of its base. Assumes nothing.
use Rattle.std.specs.Prelude.{Option, None, Some}
use Prim.Native.Nat.{ℕ, suc, zero}
use mathlib.Core.Path.{◌≡◌, refl, sym, ap, ◌∙◌, subst}
use mathlib.Core.Bool.{Bool, true, false, not, ◌||◌, false≢true, or_assoc}
use mathlib.Core.List.{List, [], ◌∷◌}
use Rattle.value.specs.declared.Value.{Value}
use Rattle.value.specs.declared.PropertyKey.{PropertyKey}
use Rattle.value.specs.PropertyKey.{same_key}
use Rattle.value.proofs.Bools.{or_swap}
use Rattle.value.proofs.SameKey.{key-eq}
use Rattle.property.proofs.ValidateLaws.{configurable-not-frozen}
use Rattle.store.specs.declared.OrdinaryObject.{OrdinaryObject}
use Rattle.store.specs.Store.{Store, own}
use Rattle.internal_methods.specs.Monad.{M}
use Rattle.internal_methods.specs.Methods.{Context}
use Rattle.internal_methods.specs.KeyList.{has_key, Sorted}
use Rattle.internal_methods.specs.Proxy.{absent_or_configurable, sorted_by, sorted, proxy_own_property_keys}
use Rattle.internal_methods.specs.Internal.{methods}
use Rattle.internal_methods.proofs.Ensures.{Ensures, ensures-pure, ensures-fails, ensures-bind, ensures-if, ensures-throw_any, ensures-then, ensures-weaken, ensures-dispatch}
use Rattle.internal_methods.proofs.Base.{frozen_as, is_absent, here, Under, at_base, on-base, through, Frozen}
use Rattle.internal_methods.proofs.Reading.{is_extensible-report, Faithful, get_own_property-report, frozen-told}
use Rattle.internal_methods.proofs.KeyListLaws.{own-keys-has, Admitted, admitted}
use Rattle.property.specs.declared.Property.{Property}

-- a key list has what is frozen, and all that there is and no more of an object that is not extensible
pub record KeysTied (σ : Store) (b : ℕ) (r : OrdinaryObject) (ks : List PropertyKey) : Type 0 where
  pub fixed : (k : PropertyKey) (v : Value) → frozen_as v (own σ b k) ≡ true → has_key k ks ≡ true
  pub shown : r.extensible ≡ false → (k : PropertyKey) → has_key k ks ≡ not (is_absent (own σ b k))

frozen-there : (d : Option Property) (v : Value) → frozen_as v d ≡ true → not (is_absent d) ≡ true
frozen-there None v h = absurd (false≢true h)
frozen-there (Some p) v h = refl

frozen-fixed : (d : Option Property) (v : Value) → frozen_as v d ≡ true → absent_or_configurable d ≡ true → ⊥
frozen-fixed None v h c = false≢true h
frozen-fixed (Some p) v h c = false≢true (sym (configurable-not-frozen p v c) ∙ h)

-- step 16: the keys are sorted, and what is frozen is among those that cannot be configured
record Sorts (σ : Store) (o : ℕ) (ks : List PropertyKey) (s : Sorted) : Type 0 where
  parts : (k : PropertyKey) → has_key k ks ≡ (has_key k s.configurable || has_key k s.nonconfigurable)
  fixed : (k : PropertyKey) (v : Value) → Frozen σ o k v → has_key k ks ≡ true → has_key k s.nonconfigurable ≡ true

sorts-cons : (σ : Store) (o : ℕ) (k : PropertyKey) (ks : List PropertyKey) (s : Sorted) (d : Option Property) → Faithful σ o k d → Sorts σ o ks s
    → (b : Bool) → absent_or_configurable d ≡ b → Sorts σ o (k ∷ ks) (sorted_by k b s)
unfolding has_key
sorts-cons σ o k ks s d f h true e = record {
  parts = λ l. ap (λ (x : Bool). same_key k l || x) (h.parts l) ∙ sym (or_assoc (same_key k l) (has_key l s.configurable) (has_key l s.nonconfigurable));
  fixed = λ l v u. go l v u (same_key k l) refl;
}
  where
    go : (l : PropertyKey) (v : Value) → Frozen σ o l v → (b : Bool) → same_key k l ≡ b → (b || has_key l ks) ≡ true → has_key l s.nonconfigurable ≡ true
    go l v u true q g = absurd (frozen-fixed d v (frozen-told k d v f (subst (λ (m : PropertyKey). Frozen σ o m v) (sym (key-eq k l q)) u)) e)
    go l v u false q g = h.fixed l v u g
sorts-cons σ o k ks s d f h false e = record {
  parts = λ l. ap (λ (x : Bool). same_key k l || x) (h.parts l) ∙ or_swap (same_key k l) (has_key l s.configurable) (has_key l s.nonconfigurable);
  fixed = λ l v u. go l v u (same_key k l);
}
  where
    go : (l : PropertyKey) (v : Value) → Frozen σ o l v → (b : Bool) → (b || has_key l ks) ≡ true → (b || has_key l s.nonconfigurable) ≡ true
    go l v u true g = refl
    go l v u false g = h.fixed l v u g

sorted-report : (σ : Store) (o : ℕ) (get_own : PropertyKey → M (Option Property)) → ((k : PropertyKey) → Ensures (get_own k) (Faithful σ o k)) → (ks : List PropertyKey)
    → Ensures (sorted get_own ks) (Sorts σ o ks)
unfolding sorted has_key
sorted-report σ o get_own h [] = ensures-pure _ (record { parts = λ k. refl; fixed = λ k v u f. f })
sorted-report σ o get_own h (k ∷ ks) =
    ensures-bind (h k) λ d f.
    ensures-bind (sorted-report σ o get_own h ks) λ s g.
    ensures-pure _ (sorts-cons σ o k ks s d f g _ refl)

-- what the checks tie to the target's keys is tied to the base
keys-tied : {σ : Store} {o : ℕ} (target_keys result : List PropertyKey) (s : Sorted) (x : Bool) → Under σ o (λ b r. x ≡ r.extensible)
    → Sorts σ o target_keys s → Admitted x s result → Under σ o (λ b r. KeysTied σ b r target_keys) → Under σ o (λ b r. KeysTied σ b r result)
keys-tied {σ} {o} target_keys result s x u sorts a t = record {
  number = t.number;
  object = t.object;
  base = t.base;
  holds = record {
    fixed = λ k v f.
        let frozen : Frozen σ o k v = on-base (record { number = t.number; object = t.object; base = t.base; holds = f }) in
        a.fixed k (sorts.fixed k v frozen (t.holds.fixed k v f));
    shown = λ shut k. a.exact (at_base t.base u ∙ shut) k ∙ sym (sorts.parts k) ∙ t.holds.shown shut k;
  };
}

pub own_property_keys-report : (n : ℕ) (c : Context) (o : ℕ) → Ensures ((methods n c).own_property_keys o) (λ ks. Under c.store o (λ b r. KeysTied c.store b r ks))
unfolding methods proxy_own_property_keys
own_property_keys-report zero c o = ensures-fails _
own_property_keys-report (suc n) c o = ensures-dispatch c.store o
    (λ r e. ensures-pure _ (record {
      number = o;
      object = r;
      base = here e;
      holds = record {
        fixed = λ k v f. own-keys-has c.strings c.store o k ∙ frozen-there (own c.store o k) v f;
        shown = λ _ k. own-keys-has c.strings c.store o k;
      };
    }))
    (λ p e. ensures-if _
    (λ _. ensures-weaken (own_property_keys-report n c p.target) (λ ks u. through e u))
    (λ _. ensures-then _ λ result.
    ensures-throw_any _ λ _.
    ensures-bind (is_extensible-report n c p.target) λ x u.
    ensures-bind (own_property_keys-report n c p.target) λ target_keys t.
    ensures-bind (sorted-report c.store p.target ((methods n c).get_own_property p.target) (get_own_property-report n c p.target) target_keys) λ s sorts.
    ensures-throw_any _ λ steps-17-to-22.
    ensures-pure _ (through e (keys-tied target_keys result s x u sorts (admitted x s result steps-17-to-22) t))))
