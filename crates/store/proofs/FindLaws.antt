-- What insertion, replacement and removal do to a list of entries. Assumes nothing.
use Rattle.std.specs.Prelude.{None, Some}
use Prim.Native.Nat.{ℕ, zero, suc}
use native.Mathlib.Omega.{arith}
use mathlib.Core.Path.{◌≡◌, refl, ap, ◌∙◌}
use mathlib.Core.Bool.{Bool, true, false, cond}
use mathlib.Core.List.{List, [], ◌∷◌, ◌++◌}
use lib.Dec.{eqb}
use borrow.Author.Tests.{eqb-true, eq-eqb}
use Rattle.value.specs.declared.PropertyKey.{PropertyKey}
use Rattle.value.specs.PropertyKey.{same_key}
use Rattle.value.proofs.Bools.{and-true}
use Rattle.value.proofs.SameKey.{key-eq}
use Rattle.property.specs.declared.Property.{Property}
use Rattle.store.specs.declared.Entry.{Entry}
use Rattle.store.specs.Store.{entry, is_at, find, insert, excluding, remove, replace_at}
use Rattle.store.specs.OwnKeys.{keys_in}
use Rattle.store.proofs.StoreLaws.{same_place, place-refl, find-insert, find-remove}

-- entry i is the first that is the property k of the object o
pub data First (o : ℕ) (k : PropertyKey) : List Entry → ℕ → Type 0 where
  here : {e : Entry} {es : List Entry} → is_at e o k ≡ true → First o k (e ∷ es) 0
  later : {e : Entry} {es : List Entry} {i : ℕ} → is_at e o k ≡ false → First o k es i → First o k (e ∷ es) (suc i)

at-owner : (e : Entry) (o : ℕ) (k : PropertyKey) → is_at e o k ≡ true → (e.owner ≡ o) × (e.key ≡ k)
unfolding is_at
at-owner e o k h = let (a, b) = and-true _ _ h in (eqb-true _ _ a, key-eq _ _ b)

-- replacing the first entry is inserting
pub first-replaced : (o : ℕ) (k : PropertyKey) (es : List Entry) (i : ℕ) (p : Property) → First o k es i → replace_at es i p ≡ insert es o k p
unfolding replace_at insert
first-replaced o k [] i p x' = elim x' [ ]
first-replaced o k (e ∷ es) _ p (here h) = let (a, b) = at-owner e o k h in rw (h, a, b)
first-replaced o k (e ∷ es) _ p (later h f) = rw (h, first-replaced o k es _ p f)

-- inserting what is absent appends it
pub absent-appended : (es : List Entry) (o : ℕ) (k : PropertyKey) (p : Property) → find es o k ≡ None → insert es o k p ≡ es ++ (entry o k p ∷ [])
unfolding find insert
absent-appended [] o k p h = refl
absent-appended (e ∷ es) o k p h = go (is_at e o k) refl (absent-appended es o k p)
  where
    go : (t : Bool) → is_at e o k ≡ t → (find es o k ≡ None → insert es o k p ≡ es ++ (entry o k p ∷ []))
        → insert (e ∷ es) o k p ≡ (e ∷ es) ++ (entry o k p ∷ [])
    go true q ih =
        let z : Some e.property ≡ None = rw q at h in
        let y : ◌≡◌ {A = ℕ} 0 1 = cc in absurd (omega arith)
    go false q ih =
        let z : find es o k ≡ None = rw q at h in
        rw (q, ih z)

-- what is found once the first entry is replaced
pub find-replaced : (o : ℕ) (k : PropertyKey) (es : List Entry) (i : ℕ) (p : Property) (b : ℕ) (l : PropertyKey) → First o k es i
    → find (replace_at es i p) b l ≡ cond (same_place o k b l) (Some p) (find es b l)
find-replaced o k es i p b l f = rw (first-replaced o k es i p f) (find-insert es o k p b l)

-- Keys ----------------------------------------------------------------------------------

-- replacement keeps the order of keys
pub keys-replaced : (es : List Entry) (i : ℕ) (p : Property) (b : ℕ) → keys_in (replace_at es i p) b ≡ keys_in es b
unfolding keys_in replace_at
keys-replaced [] i p b = refl
keys-replaced (e ∷ es) zero p b = refl
keys-replaced (e ∷ es) (suc i) p b = rw (keys-replaced es i p b)

-- and so does insertion of a key that is present
pub keys-present : (es : List Entry) (o : ℕ) (k : PropertyKey) (p q : Property) (b : ℕ) → find es o k ≡ Some q → keys_in (insert es o k p) b ≡ keys_in es b
unfolding keys_in insert find
keys-present [] o k p q b h = let y : ◌≡◌ {A = ℕ} 0 1 = cc in absurd (omega arith)
keys-present (e ∷ es) o k p q b h = go (is_at e o k) refl (keys-present es o k p q b)
  where
    go : (t : Bool) → is_at e o k ≡ t → (find es o k ≡ Some q → keys_in (insert es o k p) b ≡ keys_in es b)
        → keys_in (insert (e ∷ es) o k p) b ≡ keys_in (e ∷ es) b
    go true t ih = let (x, y) = at-owner e o k t in rw (t, x, y)
    go false t ih =
        let z : find es o k ≡ Some q = rw t at h in
        rw (t, ih z)

keys-append : (es fs : List Entry) (b : ℕ) → keys_in (es ++ fs) b ≡ keys_in es b ++ keys_in fs b
unfolding keys_in
keys-append [] fs b = refl
keys-append (e ∷ es) fs b = rw (keys-append es fs b) (push (eqb e.owner b))
  where
    push : (t : Bool) → cond t (e.key ∷ (keys_in es b ++ keys_in fs b)) (keys_in es b ++ keys_in fs b) ≡ cond t (e.key ∷ keys_in es b) (keys_in es b) ++ keys_in fs b
    push true = refl
    push false = refl

-- a key that is new comes last
pub keys-absent : (es : List Entry) (o : ℕ) (k : PropertyKey) (p : Property) → find es o k ≡ None → keys_in (insert es o k p) o ≡ keys_in es o ++ (k ∷ [])
unfolding keys_in
keys-absent es o k p h = rw (absent-appended es o k p h, keys-append es (entry o k p ∷ []) o, eq-eqb o o refl)

-- other objects keep their keys
pub keys-inserted-other : (es : List Entry) (o : ℕ) (k : PropertyKey) (p : Property) (b : ℕ) → eqb o b ≡ false → keys_in (insert es o k p) b ≡ keys_in es b
unfolding keys_in insert
keys-inserted-other [] o k p b h = rw h
keys-inserted-other (e ∷ es) o k p b h = go (is_at e o k) refl (keys-inserted-other es o k p b h)
  where
    go : (t : Bool) → is_at e o k ≡ t → keys_in (insert es o k p) b ≡ keys_in es b → keys_in (insert (e ∷ es) o k p) b ≡ keys_in (e ∷ es) b
    go true t ih = let (x, y) = at-owner e o k t in rw (t, x, y)
    go false t ih = rw (t, ih)

pub keys-removed-other : (es : List Entry) (o : ℕ) (k : PropertyKey) (b : ℕ) → eqb o b ≡ false → keys_in (remove es o k) b ≡ keys_in es b
unfolding keys_in remove excluding
keys-removed-other [] o k b h = refl
keys-removed-other (e ∷ es) o k b h = go (is_at e o k) refl (keys-removed-other es o k b h)
  where
    go : (t : Bool) → is_at e o k ≡ t → keys_in (remove es o k) b ≡ keys_in es b → keys_in (remove (e ∷ es) o k) b ≡ keys_in (e ∷ es) b
    go true t ih = let (x, y) = at-owner e o k t in rw (t, x, h, ih)
    go false t ih = rw (t, ih)

-- the keys but k
unfoldable pub without : PropertyKey → List PropertyKey → List PropertyKey
without k [] = []
without k (l ∷ ls) = cond (same_key l k) (without k ls) (l ∷ without k ls)

pub keys-removed : (es : List Entry) (o : ℕ) (k : PropertyKey) → keys_in (remove es o k) o ≡ without k (keys_in es o)
unfolding keys_in remove excluding without is_at
keys-removed [] o k = refl
keys-removed (e ∷ es) o k = go (eqb e.owner o) (same_key e.key k) refl refl (keys-removed es o k)
  where
    go : (a b : Bool) → eqb e.owner o ≡ a → same_key e.key k ≡ b → keys_in (remove es o k) o ≡ without k (keys_in es o)
        → keys_in (remove (e ∷ es) o k) o ≡ without k (keys_in (e ∷ es) o)
    go true true p q ih = rw (p, q, ih)
    go true false p q ih = rw (p, q, p, ih)
    go false b p q ih = rw (p, p, ih)

-- a key that is removed and made again comes last
pub keys-remade : (es : List Entry) (o : ℕ) (k : PropertyKey) (p : Property) → keys_in (insert (remove es o k) o k p) o ≡ without k (keys_in es o) ++ (k ∷ [])
keys-remade es o k p =
    keys-absent (remove es o k) o k p (find-remove es o k o k ∙ rw (place-refl o k))
    ∙ ap (λ (ks : List PropertyKey). ks ++ (k ∷ [])) (keys-removed es o k)
