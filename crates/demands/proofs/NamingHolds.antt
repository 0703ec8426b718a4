-- Refusal 14 asks for just that an object is named. Assumes nothing.
use Rattle.std.specs.Prelude.{Option, None, Some, slice_get}
use Prim.Native.Nat.{ℕ, zero, suc}
use mathlib.Core.Path.{◌≡◌, refl, ap, ◌∙◌}
use mathlib.Core.Bool.{true, not, false≢true}
use mathlib.Core.List.{List, [], ◌∷◌}
use lib.Dec.{eqb}
use lib.ListN.{get_or}
use borrow.Author.Tests.{eqb-true, eq-eqb, not-true}
use Rattle.value.specs.declared.Value.{Value}
use Rattle.value.specs.Value.{object_of}
use Rattle.value.proofs.Bools.{or_true_right, or_cases, and-true}
use Rattle.property.specs.declared.Property.{Property}
use Rattle.property.specs.declared.Property.TheVariants.{Data, Accessor}
use Rattle.store.specs.declared.Object.{Object}
use Rattle.store.specs.declared.Object.TheVariants.{Ordinary, Proxy}
use Rattle.store.specs.declared.Entry.{Entry}
use Rattle.store.specs.Store.{Store, lookup}
use Rattle.store.specs.Release.{is_number, value_names, object_names, property_names, objects_name, properties_name, is_named}
use Rattle.demands.specs.Releases.{Holds, by_value, by-getter, by-setter, Named, by-prototype, by-target, by-property, NamingDecided}

value-named : (v : Value) (o : ℕ) → value_names v o ≡ true → object_of v ≡ Some o
value-named v o h = go (object_of v) h
  where
    go : (x : Option ℕ) → is_number o x ≡ true → x ≡ Some o
    go None e = absurd (false≢true e)
    go (Some p) e = ap (λ (n : ℕ). Some n) (eqb-true p o e)

names-value : (v : Value) (o : ℕ) → object_of v ≡ Some o → value_names v o ≡ true
names-value v o e = ap (is_number o) e ∙ eq-eqb o o refl

-- Objects -------------------------------------------------------------------------------

object-named : (xs : List (Option Object)) (o : ℕ) → objects_name xs o ≡ true → (q : ℕ) × (x : Object) × (get_or xs q None ≡ Some x) × (object_names (Some x) o ≡ true)
unfolding objects_name
object-named [] o h = absurd (false≢true h)
object-named (x ∷ xs) o h = or_cases (object_names x o) (objects_name xs o) h (λ e. first x e) (λ e. let (q, y, f, g) = object-named xs o e in (suc q, y, f, g))
  where
    first : (z : Option Object) → object_names z o ≡ true → (q : ℕ) × (y : Object) × (get_or (z ∷ xs) q None ≡ Some y) × (object_names (Some y) o ≡ true)
    first None e = absurd (false≢true e)
    first (Some y) e = (zero, y, refl, e)

names-object : (xs : List (Option Object)) (o q : ℕ) (x : Object) → get_or xs q None ≡ Some x → object_names (Some x) o ≡ true → objects_name xs o ≡ true
unfolding objects_name
names-object [] o q x e h = absurd (false≢true cc)
names-object (y ∷ xs) o zero x e h = rw (e, h)
names-object (y ∷ xs) o (suc q) x e h = or_true_right (object_names y o) (objects_name xs o) (names-object xs o q x e h)

-- Properties ----------------------------------------------------------------------------

property-holds : (e : Entry) (p : Property) (o : ℕ) → e.property ≡ p → property_names p o ≡ true → (v : Value) × Holds e v × (object_of v ≡ Some o)
property-holds e (Data v w n c) o f h = (v, by_value f, value-named v o h)
property-holds e (Accessor g s n c) o f h = or_cases (value_names g o) (value_names s o) h (λ i. (g, by-getter f, value-named g o i)) (λ i. (s, by-setter f, value-named s o i))

holds-property : (e : Entry) (v : Value) (o : ℕ) → Holds e v → object_of v ≡ Some o → property_names e.property o ≡ true
holds-property e v o (by_value f) h = rw (f, names-value v o h)
holds-property e v o (by-getter f) h = rw (f, names-value v o h)
holds-property e v o (by-setter {g = g} f) h = ap (λ (p : Property). property_names p o) f ∙ or_true_right (value_names g o) (value_names v o) (names-value v o h)

property-named : (es : List Entry) (o : ℕ) → properties_name es o ≡ true → (i : ℕ) × (e : Entry) × (slice_get es i ≡ Some e) × (property_names e.property o ≡ true)
unfolding properties_name
property-named [] o h = absurd (false≢true h)
property-named (e ∷ es) o h = or_cases (property_names e.property o) (properties_name es o) h (λ f. (zero, e, refl, f)) (λ f. let (i, d, g, j) = property-named es o f in (suc i, d, g, j))

names-property : (es : List Entry) (o i : ℕ) (e : Entry) → slice_get es i ≡ Some e → property_names e.property o ≡ true → properties_name es o ≡ true
unfolding properties_name
names-property [] o i e f h = absurd (false≢true cc)
names-property (d ∷ es) o zero e f h = let q : d ≡ e = cc in rw (q, h)
names-property (d ∷ es) o (suc i) e f h = or_true_right (property_names d.property o) (properties_name es o) (names-property es o i e f h)

-- Stores --------------------------------------------------------------------------------

module _ (σ : Store) (o : ℕ) where
  pub is-named : is_named σ o ≡ true → Named σ o
  unfolding is_named lookup
  is-named h = or_cases (objects_name σ.objects o) (properties_name σ.properties o) h
      (λ e. let (q, x, f, g) = object-named σ.objects o e in by-object q x f g)
      (λ e.
      let (i, d, f, g) = property-named σ.properties o e in
      let (v, a, b) = property-holds d d.property o refl g in
      by-property i d v f a b)
    where
      by-object : (q : ℕ) (x : Object) → lookup σ q ≡ Some x → object_names (Some x) o ≡ true → Named σ o
      by-object q (Ordinary r) f g = by-prototype q r f (value-named r.prototype o g)
      by-object q (Proxy p) f g = let (a, b) = and-true (not p.revoked) (eqb p.target o) g in by-target q p f (not-true p.revoked a) (eqb-true p.target o b)

  pub named-is : Named σ o → is_named σ o ≡ true
  unfolding is_named lookup
  named-is (by-prototype q r e h) = rw (names-object σ.objects o q (Ordinary r) e (names-value r.prototype o h))
  named-is (by-target q p e f h) = rw (names-object σ.objects o q (Proxy p) e (rw (f, h, eq-eqb o o refl)))
  named-is (by-property i e v f a b) = or_true_right (objects_name σ.objects o) (properties_name σ.properties o) (names-property σ.properties o i e f (holds-property e v o a b))

pub naming-decided : (σ : Store) (o : ℕ) → NamingDecided σ o
naming-decided σ o = record { named = (is-named σ o, named-is σ o) }
