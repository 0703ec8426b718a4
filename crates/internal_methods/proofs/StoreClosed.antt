-- A store whose live objects name only live objects, and the writes that keep it so. Assumes nothing.
use Rattle.std.specs.Prelude.{Option, None, Some}
use Prim.Native.Nat.{ℕ, zero, suc}
use mathlib.Core.Path.{◌≡◌, refl, sym, ◌∙◌, subst}
use mathlib.Core.Bool.{Bool, true, false, cond, false≢true}
use mathlib.Core.List.{List, [], ◌∷◌}
use lib.Dec.{eqb}
use lib.ListN.{get_or, set}
use Rattle.value.specs.declared.Value.{Value}
use Rattle.value.specs.declared.Value.TheVariants.{Undefined}
use Rattle.value.specs.declared.PropertyKey.{PropertyKey}
use Rattle.value.specs.Value.{object_of}
use Rattle.value.proofs.Bools.{or-false}
use Rattle.property.specs.declared.PropertyDescriptor.{PropertyDescriptor}
use Rattle.property.specs.declared.Property.{Property}
use Rattle.property.specs.declared.Property.TheVariants.{Data, Accessor}
use Rattle.property.proofs.ValueLaws.{DescriptorBy, PropertyBy}
use Rattle.store.specs.declared.OrdinaryObject.{OrdinaryObject}
use Rattle.store.specs.declared.ProxyObject.{ProxyObject}
use Rattle.store.specs.declared.Object.{Object}
use Rattle.store.specs.declared.Object.TheVariants.{Ordinary, Proxy}
use Rattle.store.specs.Store.{Store, lookup, put, add, own, with_property, without_property}
use Rattle.store.specs.Release.{value_names, property_names, is_named, release}
use Rattle.store.proofs.StoreLaws.{Fresh, same_place, place-eq, lookup-add, lookup-new, lookup-with, lookup-without, own_put, own-add, own-with, own-without}
use Rattle.store.proofs.ReleaseLaws.{lookup-released-other, lookup-left, own-released, unnamed-value, unnamed-prototype, unnamed-target, unnamed-property}

-- the object is live
abbrev pub Made : Store → ℕ → Type 0
Made σ o = (x : Object) × (lookup σ o ≡ Some x)

-- the object that a value is, if it is one, is live
pub record MadeValue (σ : Store) (v : Value) : Type 0 where
  pub made : (o : ℕ) → object_of v ≡ Some o → Made σ o

-- a revoked proxy names nothing
abbrev pub MadeObject : Store → Object → Type 0
MadeObject σ (Ordinary r) = MadeValue σ r.prototype
MadeObject σ (Proxy p) = p.revoked ≡ false → Made σ p.target

abbrev pub MadeProperty : Store → Property → Type 0
MadeProperty σ p = PropertyBy (MadeValue σ) p

abbrev pub MadeDescriptor : Store → PropertyDescriptor → Type 0
MadeDescriptor σ d = DescriptorBy (MadeValue σ) d

pub record Closed (σ : Store) : Type 0 where
  pub ordinary : (o : ℕ) (r : OrdinaryObject) → lookup σ o ≡ Some (Ordinary r) → MadeValue σ r.prototype
  pub proxy : (o : ℕ) (p : ProxyObject) → lookup σ o ≡ Some (Proxy p) → p.revoked ≡ false → Made σ p.target
  pub owned : (o : ℕ) (k : PropertyKey) (p : Property) → own σ o k ≡ Some p → Made σ o
  pub named : (o : ℕ) (k : PropertyKey) (p : Property) → own σ o k ≡ Some p → MadeProperty σ p

pub undefined-made : (σ : Store) → MadeValue σ Undefined
undefined-made σ = record { made = λ o e. absurd (false≢true cc) }

pub closed-object : {σ : Store} → Closed σ → (o : ℕ) (x : Object) → lookup σ o ≡ Some x → MadeObject σ x
closed-object h o (Ordinary r) e = h.ordinary o r e
closed-object h o (Proxy p) e = h.proxy o p e

-- of a property: who has it, and what it names
abbrev MadeEntry : Store → ℕ → Property → Type 0
MadeEntry σ o p = Made σ o × MadeProperty σ p

closed-entry : {σ : Store} → Closed σ → (o : ℕ) (k : PropertyKey) (p : Property) → own σ o k ≡ Some p → MadeEntry σ o p
closed-entry h o k p e = (h.owned o k p e, h.named o k p e)

-- What was made stays so --------------------------------------------------------------------

pub value-kept : {σ τ : Store} {v : Value} → ((o : ℕ) → Made σ o → Made τ o) → MadeValue σ v → MadeValue τ v
value-kept keeps m = record { made = λ o e. keeps o (m.made o e) }

pub property-kept : (σ τ : Store) → ((o : ℕ) → Made σ o → Made τ o) → (p : Property) → MadeProperty σ p → MadeProperty τ p
property-kept σ τ keeps (Data v w e c) m = value-kept keeps m
property-kept σ τ keeps (Accessor g s e c) m = (value-kept keeps m.0, value-kept keeps m.1)

-- and what is there then names what was made before
pub closed_after : {σ τ : Store} → ((o : ℕ) → Made σ o → Made τ o) → ((o : ℕ) (x : Object) → lookup τ o ≡ Some x → MadeObject σ x)
    → ((o : ℕ) (k : PropertyKey) (p : Property) → own τ o k ≡ Some p → Made σ o × MadeProperty σ p) → Closed τ
closed_after {σ} {τ} keeps objects properties = record {
  ordinary = λ o r e. value-kept keeps (objects o (Ordinary r) e);
  proxy = λ o p e f. keeps p.target (objects o (Proxy p) e f);
  owned = λ o k p e. keeps o (properties o k p e).0;
  named = λ o k p e. property-kept σ τ keeps p (properties o k p e).1;
}

-- Writes ------------------------------------------------------------------------------------

-- an object of a list that was set is the new one, or was there
set_cases : {C : Type 0} (xs : List (Option Object)) (i j : ℕ) (x y : Object) → get_or (set xs i (Some x)) j None ≡ Some y → (x ≡ y → C) → (get_or xs j None ≡ Some y → C) → C
set_cases [] i j x y e f g = g e
set_cases (z ∷ xs) zero zero x y e f g = f (cc)
set_cases (z ∷ xs) zero (suc j) x y e f g = g e
set_cases (z ∷ xs) (suc i) zero x y e f g = g e
set_cases (z ∷ xs) (suc i) (suc j) x y e f g = set_cases xs i j x y e f g

set_keeps : (xs : List (Option Object)) (i j : ℕ) (x y : Object) → get_or xs j None ≡ Some y → (z : Object) × (get_or (set xs i (Some x)) j None ≡ Some z)
set_keeps [] i j x y e = (y, e)
set_keeps (z ∷ xs) zero zero x y e = (x, refl)
set_keeps (z ∷ xs) zero (suc j) x y e = (y, e)
set_keeps (z ∷ xs) (suc i) zero x y e = (y, e)
set_keeps (z ∷ xs) (suc i) (suc j) x y e = set_keeps xs i j x y e

pub made-put : (σ : Store) (o : ℕ) (x : Object) (q : ℕ) → Made σ q → Made (put σ o x) q
unfolding lookup put
made-put σ o x q (y, e) = set_keeps σ.objects o q x y e

put-cases : {C : Type 0} (σ : Store) (o q : ℕ) (x y : Object) → lookup (put σ o x) q ≡ Some y → (x ≡ y → C) → (lookup σ q ≡ Some y → C) → C
unfolding lookup put
put-cases σ o q x y e f g = set_cases σ.objects o q x y e f g

pub closed-put : (σ : Store) (o : ℕ) (x : Object) → Closed σ → MadeObject σ x → Closed (put σ o x)
closed-put σ o x h m = closed_after (made-put σ o x)
    (λ q y e. put-cases σ o q x y e (λ f. subst (MadeObject σ) f m) (λ f. closed-object h q y f))
    (λ q k p e. closed-entry h q k p (sym (own_put σ o x q k) ∙ e))

pub made-with : (σ : Store) (o : ℕ) (k : PropertyKey) (p : Property) (q : ℕ) → Made σ q → Made (with_property σ o k p) q
made-with σ o k p q (x, e) = (x, lookup-with σ o k p q ∙ e)

pub closed-with : (σ : Store) (o : ℕ) (k : PropertyKey) (p : Property) → Closed σ → Made σ o → MadeProperty σ p → Closed (with_property σ o k p)
closed-with σ o k p h mo mp = closed_after (made-with σ o k p)
    (λ q x e. closed-object h q x (sym (lookup-with σ o k p q) ∙ e))
    (λ q l r e. go q l r (same_place o k q l) refl (sym (own-with σ o k p q l) ∙ e))
  where
    go : (q : ℕ) (l : PropertyKey) (r : Property) (t : Bool) → same_place o k q l ≡ t → cond t (Some p) (own σ q l) ≡ Some r → MadeEntry σ q r
    go q l r true s e = (subst (Made σ) (place-eq o k q l s).0 mo, subst (MadeProperty σ) (let f : p ≡ r = cc in f) mp)
    go q l r false s e = closed-entry h q l r e

pub made-without : (σ : Store) (o : ℕ) (k : PropertyKey) (q : ℕ) → Made σ q → Made (without_property σ o k) q
made-without σ o k q (x, e) = (x, lookup-without σ o k q ∙ e)

-- where nothing stands instead, it stood before
kept_from : (t : Bool) (x : Option Property) (p : Property) → cond t None x ≡ Some p → (t ≡ false) × (x ≡ Some p)
kept_from true x p e = absurd (false≢true cc)
kept_from false x p e = (refl, e)

pub closed-without : (σ : Store) (o : ℕ) (k : PropertyKey) → Closed σ → Closed (without_property σ o k)
closed-without σ o k h = closed_after (made-without σ o k)
    (λ q x e. closed-object h q x (sym (lookup-without σ o k q) ∙ e))
    (λ q l p e. closed-entry h q l p (kept_from (same_place o k q l) _ p (sym (own-without σ o k q l) ∙ e)).1)

-- The store after a method: closed, and what was live is live

pub record Kept (σ τ : Store) : Type 0 where
  pub closed : Closed τ
  pub keeps : (o : ℕ) → Made σ o → Made τ o

pub kept_same : (σ : Store) → Closed σ → Kept σ σ
kept_same σ h = record { closed = h; keeps = λ o m. m }

pub kept_put : (σ : Store) (o : ℕ) (x : Object) → Closed σ → MadeObject σ x → Kept σ (put σ o x)
kept_put σ o x h m = record { closed = closed-put σ o x h m; keeps = made-put σ o x }

pub kept-with : (σ : Store) (o : ℕ) (k : PropertyKey) (p : Property) → Closed σ → Made σ o → MadeProperty σ p → Kept σ (with_property σ o k p)
kept-with σ o k p h mo mp = record { closed = closed-with σ o k p h mo mp; keeps = made-with σ o k p }

pub kept-without : (σ : Store) (o : ℕ) (k : PropertyKey) → Closed σ → Kept σ (without_property σ o k)
kept-without σ o k h = record { closed = closed-without σ o k h; keeps = made-without σ o k }

-- A new object, and one that leaves --------------------------------------------------------

pub made-add : (σ : Store) → Fresh σ → (x : Object) (b : Bool) (o : ℕ) → Made σ o → Made (add σ x b) o
made-add σ f x b o (y, e) = (y, lookup-add σ f x b o y e)

-- an object that is there after is the new one, or was there
pub add-cases : {C : Type 0} (σ : Store) → Fresh σ → (x : Object) (b : Bool) (o : ℕ) (y : Object) → lookup (add σ x b) o ≡ Some y → (x ≡ y → C) → (lookup σ o ≡ Some y → C) → C
add-cases {C} σ f x b o y e new old = go (lookup σ o) refl
  where
    go : (t : Option Object) → lookup σ o ≡ t → C
    go None g = new (lookup-new σ x b o y g e).1
    go (Some z) g = old (g ∙ (sym (lookup-add σ f x b o z g) ∙ e))

pub closed-add : (σ : Store) → Fresh σ → (x : Object) (b : Bool) → Closed σ → MadeObject σ x → Closed (add σ x b)
closed-add σ f x b h m = closed_after (made-add σ f x b)
    (λ o y e. add-cases σ f x b o y e (λ g. subst (MadeObject σ) g m) (λ g. closed-object h o y g))
    (λ o k p e. closed-entry h o k p (sym (own-add σ x b o k) ∙ e))

-- another object stays live
pub made-released : (σ : Store) (o q : ℕ) → eqb o q ≡ false → Made σ q → Made (release σ o) q
made-released σ o q h (x, e) = (x, lookup-released-other σ o q h ∙ e)

pub value-released : (σ : Store) (o : ℕ) (v : Value) → value_names v o ≡ false → MadeValue σ v → MadeValue (release σ o) v
value-released σ o v h m = record { made = λ q e. made-released σ o q (unnamed-value v o q h e) (m.made q e) }

property-released : (σ : Store) (o : ℕ) (p : Property) → property_names p o ≡ false → MadeProperty σ p → MadeProperty (release σ o) p
property-released σ o (Data v w e c) h m = value-released σ o v h m
property-released σ o (Accessor g s e c) h m =
    let (a, b) = or-false (value_names g o) (value_names s o) h in
    (value-released σ o g a m.0, value-released σ o s b m.1)

pub closed-released : (σ : Store) (o : ℕ) → Closed σ → is_named σ o ≡ false → Closed (release σ o)
closed-released σ o h n = record {
  ordinary = λ b r e.
      let f = (lookup-left σ o b (Ordinary r) e).1 in
      record { made = λ q g. made-released σ o q (unnamed-prototype σ o b q r n f g) ((h.ordinary b r f).made q g) };
  proxy = λ b p e l. let f = (lookup-left σ o b (Proxy p) e).1 in made-released σ o p.target (unnamed-target σ o b p n f l) (h.proxy b p f l);
  owned = λ b k p e. let (a, f) = left b k p e in made-released σ o b a (h.owned b k p f);
  named = λ b k p e. let (a, f) = left b k p e in property-released σ o p (unnamed-property σ o b k p n f) (h.named b k p f);
}
  where
    left : (b : ℕ) (k : PropertyKey) (p : Property) → own (release σ o) b k ≡ Some p → (eqb o b ≡ false) × (own σ b k ≡ Some p)
    left b k p e = kept_from _ _ p (sym (own-released σ o b k) ∙ e)
