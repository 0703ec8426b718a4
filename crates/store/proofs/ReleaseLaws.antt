-- What is found in a store once an object is released, and what an object that is not named is not. Assumes nothing.
use Rattle.std.specs.Prelude.{Option, None, Some}
use Prim.Native.Nat.{ℕ, zero, suc, ◌≤◌, zero-le, suc-le-suc}
use native.Mathlib.Nat.{le-suc, le_trans}
use mathlib.Core.Path.{◌≡◌, refl, sym, ap, ◌∙◌}
use mathlib.Core.Bool.{Bool, true, false, not, ◌&&◌, ◌||◌, cond, false≢true, true≢false}
use mathlib.Core.List.{List, [], ◌∷◌}
use lib.Dec.{eqb, ltb}
use lib.ListN.{length, get_or, set, length-set, get_or-eq_default}
use lib.Seq.{get_or-set_same, get_or-set_other}
use borrow.Author.Tests.{eqb-true, eqb-false, eq-eqb, ltb-true, ltb-false}
use Rattle.value.specs.declared.Value.{Value}
use Rattle.value.specs.declared.PropertyKey.{PropertyKey}
use Rattle.value.specs.PropertyKey.{same_key}
use Rattle.value.specs.Value.{object_of}
use Rattle.property.specs.declared.Property.{Property}
use Rattle.store.specs.declared.OrdinaryObject.{OrdinaryObject}
use Rattle.store.specs.declared.ProxyObject.{ProxyObject}
use Rattle.store.specs.declared.Object.{Object}
use Rattle.store.specs.declared.Object.TheVariants.{Ordinary, Proxy}
use Rattle.store.specs.declared.Entry.{Entry}
use Rattle.store.specs.Store.{Store, lookup, is_at, find, excluding, own, is_function}
use Rattle.store.specs.OwnKeys.{keys_in}
use Rattle.store.specs.Release.{is_number, value_names, object_names, property_names, objects_name, properties_name, is_named, is_owned_by, release}

-- Objects -------------------------------------------------------------------------------

-- the object is gone
pub lookup-released : (σ : Store) (o : ℕ) → lookup (release σ o) o ≡ None
unfolding lookup release
lookup-released σ o = go (ltb o (length σ.objects)) refl
  where
    go : (t : Bool) → ltb o (length σ.objects) ≡ t → get_or (set σ.objects o None) o None ≡ None
    go true e = get_or-set_same σ.objects o None None (ltb-true _ _ e)
    go false e = get_or-eq_default (set σ.objects o None) None {n = o} (rw (length-set σ.objects o None) (ltb-false _ _ e))

-- the others stay
pub lookup-released-other : (σ : Store) (o b : ℕ) → eqb o b ≡ false → lookup (release σ o) b ≡ lookup σ b
unfolding lookup release
lookup-released-other σ o b h = get_or-set_other σ.objects o b None None (λ e. eqb-false o b h (sym e))

-- what is there after it was there before, and is another one
pub lookup-left : (σ : Store) (o b : ℕ) (x : Object) → lookup (release σ o) b ≡ Some x → (eqb o b ≡ false) × (lookup σ b ≡ Some x)
lookup-left σ o b x e = go (eqb o b) refl
  where
    go : (t : Bool) → eqb o b ≡ t → (eqb o b ≡ false) × (lookup σ b ≡ Some x)
    go true h =
        let g : None ≡ Some x = sym (lookup-released σ o) ∙ (ap (lookup (release σ o)) (eqb-true o b h) ∙ e) in
        absurd (false≢true cc)
    go false h = (h, sym (lookup-released-other σ o b h) ∙ e)

-- every mark stays
pub function-released : (σ : Store) (o b : ℕ) → is_function (release σ o) b ≡ is_function σ b
unfolding release
function-released σ o b = refl

-- Properties ----------------------------------------------------------------------------

excluded : (es : List Entry) (o b : ℕ) (l : PropertyKey) → find (excluding (is_owned_by o) es) b l ≡ cond (eqb o b) None (find es b l)
unfolding find excluding is_at
excluded [] o b l = sym (both (eqb o b))
  where
    both : (t : Bool) → cond {A = Option Property} t None None ≡ None
    both true = refl
    both false = refl
excluded (e ∷ es) o b l = go (eqb e.owner o) refl (eqb o b) refl (excluded es o b l)
  where
    -- an entry of o is of no other object
    other : eqb e.owner o ≡ true → eqb o b ≡ false → eqb e.owner b ≡ false
    other p q = rw (eqb-true e.owner o p) q

    mine : eqb e.owner o ≡ false → eqb o b ≡ true → eqb e.owner b ≡ false
    mine p q = rw (← eqb-true o b q) p

    go : (s : Bool) → eqb e.owner o ≡ s → (t : Bool) → eqb o b ≡ t → find (excluding (is_owned_by o) es) b l ≡ cond t None (find es b l)
        → find (cond s (excluding (is_owned_by o) es) (e ∷ excluding (is_owned_by o) es)) b l ≡ cond t None (cond (eqb e.owner b && same_key e.key l) (Some e.property) (find es b l))
    go true p true q ih = ih
    go true p false q ih = rw (other p q) ih
    go false p true q ih = rw (mine p q) ih
    go false p false q ih = rw ih

-- its properties are gone, and those of the others stay
pub own-released : (σ : Store) (o b : ℕ) (l : PropertyKey) → own (release σ o) b l ≡ cond (eqb o b) None (own σ b l)
unfolding own release
own-released σ o b l = excluded σ.properties o b l

pub own-released-other : (σ : Store) (o b : ℕ) (l : PropertyKey) → eqb o b ≡ false → own (release σ o) b l ≡ own σ b l
own-released-other σ o b l h = own-released σ o b l ∙ rw h

-- their places are free
pub excluding-fewer : (test : Entry → Bool) (es : List Entry) → length (excluding test es) ≤ length es
unfolding excluding
excluding-fewer test [] = zero-le
excluding-fewer test (e ∷ es) = go (test e) (excluding-fewer test es)
  where
    go : (t : Bool) → length (excluding test es) ≤ length es → length (cond t (excluding test es) (e ∷ excluding test es)) ≤ suc (length es)
    go true h = le_trans h (le-suc _)
    go false h = suc-le-suc h

pub released-fewer : (σ : Store) (o : ℕ) → length (release σ o).properties ≤ length σ.properties
unfolding release
released-fewer σ o = excluding-fewer (is_owned_by o) σ.properties

pub keys-released : (es : List Entry) (o : ℕ) → keys_in (excluding (is_owned_by o) es) o ≡ []
unfolding keys_in excluding
keys-released [] o = refl
keys-released (e ∷ es) o = go (eqb e.owner o) refl (keys-released es o)
  where
    go : (t : Bool) → eqb e.owner o ≡ t → keys_in (excluding (is_owned_by o) es) o ≡ [] → keys_in (cond t (excluding (is_owned_by o) es) (e ∷ excluding (is_owned_by o) es)) o ≡ []
    go true p ih = ih
    go false p ih = rw p ih

pub keys-released-other : (es : List Entry) (o b : ℕ) → eqb o b ≡ false → keys_in (excluding (is_owned_by o) es) b ≡ keys_in es b
unfolding keys_in excluding
keys-released-other [] o b h = refl
keys-released-other (e ∷ es) o b h = go (eqb e.owner o) refl (keys-released-other es o b h)
  where
    go : (t : Bool) → eqb e.owner o ≡ t → keys_in (excluding (is_owned_by o) es) b ≡ keys_in es b
        → keys_in (cond t (excluding (is_owned_by o) es) (e ∷ excluding (is_owned_by o) es)) b ≡ cond (eqb e.owner b) (e.key ∷ keys_in es b) (keys_in es b)
    go true p ih = rw (eqb-true e.owner o p, h) ih
    go false p ih = rw ih

-- Names ---------------------------------------------------------------------------------

either-false : (a b : Bool) → (a || b) ≡ false → (a ≡ false) × (b ≡ false)
either-false true b h = absurd (true≢false h)
either-false false b h = (refl, h)

-- a value that does not name o is another object, or none
pub unnamed-value : (v : Value) (o q : ℕ) → value_names v o ≡ false → object_of v ≡ Some q → eqb o q ≡ false
unnamed-value v o q h e = go (eqb o q) refl
  where
    go : (t : Bool) → eqb o q ≡ t → eqb o q ≡ false
    go false f = f
    go true f =
        let a : value_names v o ≡ true = ap (is_number o) e ∙ eq-eqb q o (sym (eqb-true o q f)) in
        absurd (true≢false (sym a ∙ h))

module _ (o : ℕ) where
  objects-unnamed : (xs : List (Option Object)) (b : ℕ) → objects_name xs o ≡ false → object_names (get_or xs b None) o ≡ false
  unfolding objects_name
  objects-unnamed [] b h = refl
  objects-unnamed (x ∷ xs) zero h = (either-false (object_names x o) (objects_name xs o) h).0
  objects-unnamed (x ∷ xs) (suc b) h = objects-unnamed xs b (either-false (object_names x o) (objects_name xs o) h).1

  properties-unnamed : (es : List Entry) (b : ℕ) (l : PropertyKey) (p : Property) → properties_name es o ≡ false → find es b l ≡ Some p → property_names p o ≡ false
  unfolding properties_name find
  properties-unnamed [] b l p h e = absurd (false≢true cc)
  properties-unnamed (e ∷ es) b l p h f = go (is_at e b l) f (λ g. properties-unnamed es b l p (either-false (property_names e.property o) (properties_name es o) h).1 g)
    where
      go : (t : Bool) → cond t (Some e.property) (find es b l) ≡ Some p → (find es b l ≡ Some p → property_names p o ≡ false) → property_names p o ≡ false
      go true g ih = let q : e.property ≡ p = cc in rw (← q) (either-false (property_names e.property o) (properties_name es o) h).0
      go false g ih = ih g

-- no object names it
pub unnamed-object : (σ : Store) (o b : ℕ) (x : Object) → is_named σ o ≡ false → lookup σ b ≡ Some x → object_names (Some x) o ≡ false
unfolding is_named lookup
unnamed-object σ o b x h e = ap (λ (y : Option Object). object_names y o) (sym e) ∙ objects-unnamed o σ.objects b (either-false (objects_name σ.objects o) (properties_name σ.properties o) h).0

-- by its prototype
pub unnamed-prototype : (σ : Store) (o b q : ℕ) (r : OrdinaryObject) → is_named σ o ≡ false → lookup σ b ≡ Some (Ordinary r) → object_of r.prototype ≡ Some q → eqb o q ≡ false
unnamed-prototype σ o b q r h e f = unnamed-value r.prototype o q (unnamed-object σ o b (Ordinary r) h e) f

-- by its target, if it is a proxy that is not revoked
pub unnamed-target : (σ : Store) (o b : ℕ) (p : ProxyObject) → is_named σ o ≡ false → lookup σ b ≡ Some (Proxy p) → p.revoked ≡ false → eqb o p.target ≡ false
unnamed-target σ o b p h e f = go (eqb o p.target) refl
  where
    go : (t : Bool) → eqb o p.target ≡ t → eqb o p.target ≡ false
    go false g = g
    go true g =
        let n : (not p.revoked && eqb p.target o) ≡ false = unnamed-object σ o b (Proxy p) h e in
        let m : (not p.revoked && eqb p.target o) ≡ true = rw (f, eq-eqb p.target o (sym (eqb-true o p.target g))) in
        absurd (true≢false (sym m ∙ n))

-- or by a property
pub unnamed-property : (σ : Store) (o b : ℕ) (l : PropertyKey) (p : Property) → is_named σ o ≡ false → own σ b l ≡ Some p → property_names p o ≡ false
unfolding is_named own
unnamed-property σ o b l p h e = properties-unnamed o σ.properties b l p (either-false (objects_name σ.objects o) (properties_name σ.properties o) h).1 e
