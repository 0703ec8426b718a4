-- What is found in a store after a change of it. Assumes nothing.
use Rattle.std.specs.Prelude.{Option, None, Some}
use Prim.Native.Nat.{ℕ, zero, suc, ◌^◌, ◌<◌, suc-le-suc, zero-le}
use native.Mathlib.Nat.{zero-div}
use mathlib.Core.Path.{◌≡◌, refl, sym, ap, ◌∙◌, subst}
use mathlib.Core.Bool.{Bool, true, false, ◌&&◌, cond, false≢true, true≢false}
use mathlib.Core.List.{List, [], ◌∷◌}
use lib.Dec.{eqb, ltb}
use lib.ListN.{length, get_or, set, length-set, replicate, get_or-replicate, get_or-eq_default}
use lib.Seq.{get_or-set_same, get_or-set_other}
use borrow.Author.Tests.{eqb-true, eqb-false, eq-eqb, ltb-true, ltb-false}
use Rattle.value.specs.declared.PropertyKey.{PropertyKey}
use Rattle.value.specs.PropertyKey.{same_key}
use Rattle.value.specs.Bits.{bit}
use Rattle.value.proofs.Bools.{and-true, refuted}
use Rattle.value.proofs.BitLaws.{bit-with, bit-first, bit-next}
use Rattle.value.proofs.SameKey.{key-refl, key-eq}
use Rattle.property.specs.declared.Property.{Property}
use Rattle.store.specs.declared.Object.{Object}
use Rattle.store.specs.declared.Entry.{Entry}
use Rattle.store.specs.Store.{Store, empty, maximum_objects, lookup, put, next_number, add, is_live, live_marks, is_function, is_at, find, insert, excluding, remove, own, with_property, without_property}

-- are they one object and one key?
abbrev pub same_place : ℕ → PropertyKey → ℕ → PropertyKey → Bool
same_place o k b l = eqb o b && same_key k l

pub place-refl : (o : ℕ) (k : PropertyKey) → same_place o k o k ≡ true
place-refl o k = rw (eq-eqb o o refl) (key-refl k)

pub place-eq : (o : ℕ) (k : PropertyKey) (b : ℕ) (l : PropertyKey) → same_place o k b l ≡ true → (o ≡ b) × (k ≡ l)
place-eq o k b l h = let (p, q) = and-true _ _ h in (eqb-true o b p, key-eq k l q)

-- Objects

-- what is found is one of the objects
pub found_below : (xs : List (Option Object)) (i : ℕ) (x : Object) → get_or xs i None ≡ Some x → i < length xs
found_below [] i x e = absurd (false≢true cc)
found_below (y ∷ xs) zero x e = suc-le-suc zero-le
found_below (y ∷ xs) (suc i) x e = suc-le-suc (found_below xs i x e)

pub lookup-empty : (o : ℕ) → lookup empty.store o ≡ None
unfolding lookup
lookup-empty o = go (ltb o maximum_objects) refl
  where
    go : (t : Bool) → ltb o maximum_objects ≡ t → get_or (replicate {A = Option Object} maximum_objects None) o None ≡ None
    go true e = get_or-replicate maximum_objects o None None (ltb-true o maximum_objects e)
    go false e = get_or-eq_default (replicate maximum_objects None) None {n = o} (ltb-false o maximum_objects e)

pub lookup-put : (σ : Store) (o : ℕ) (x y : Object) → lookup σ o ≡ Some x → lookup (put σ o y) o ≡ Some y
unfolding lookup put
lookup-put σ o x y e = get_or-set_same σ.objects o (Some y) None (found_below σ.objects o x e)

set_other : (xs : List (Option Object)) (o b : ℕ) (y : Option Object) → eqb o b ≡ false → get_or (set xs o y) b None ≡ get_or xs b None
set_other xs o b y h = get_or-set_other xs o b y None (λ e. eqb-false o b h (sym e))

pub lookup-put-other : (σ : Store) (o b : ℕ) (y : Object) → eqb o b ≡ false → lookup (put σ o y) b ≡ lookup σ b
unfolding lookup put
lookup-put-other σ o b y h = set_other σ.objects o b (Some y) h

-- the next number has a place, and no object
pub record Fresh (σ : Store) : Type 0 where
  pub within : next_number σ < length σ.objects
  pub free : lookup σ (next_number σ) ≡ None

-- so no object has it
pub next-other : (σ : Store) → Fresh σ → (o : ℕ) (x : Object) → lookup σ o ≡ Some x → eqb (next_number σ) o ≡ false
next-other σ f o x e = refuted _ λ t.
    let p : None ≡ Some x = sym f.free ∙ (ap (lookup σ) (eqb-true _ o t) ∙ e) in
    false≢true cc

pub lookup-add-other : (σ : Store) (y : Object) (b : Bool) (o : ℕ) → eqb (next_number σ) o ≡ false → lookup (add σ y b) o ≡ lookup σ o
unfolding lookup add
lookup-add-other σ y b o h = set_other σ.objects (next_number σ) o (Some y) h

pub lookup-add : (σ : Store) → Fresh σ → (y : Object) (b : Bool) (o : ℕ) (x : Object) → lookup σ o ≡ Some x → lookup (add σ y b) o ≡ Some x
lookup-add σ f y b o x e = lookup-add-other σ y b o (next-other σ f o x e) ∙ e

pub lookup-with : (σ : Store) (o : ℕ) (k : PropertyKey) (p : Property) (b : ℕ) → lookup (with_property σ o k p) b ≡ lookup σ b
unfolding lookup with_property
lookup-with σ o k p b = refl

pub lookup-without : (σ : Store) (o : ℕ) (k : PropertyKey) (b : ℕ) → lookup (without_property σ o k) b ≡ lookup σ b
unfolding lookup without_property
lookup-without σ o k b = refl

-- Properties

pub own_put : (σ : Store) (o : ℕ) (y : Object) (b : ℕ) (l : PropertyKey) → own (put σ o y) b l ≡ own σ b l
unfolding own put
own_put σ o y b l = refl

-- the object that was added is there
pub lookup-next : (σ : Store) (y : Object) (b : Bool) → next_number σ < length σ.objects → lookup (add σ y b) (next_number σ) ≡ Some y
unfolding lookup add
lookup-next σ y b h = get_or-set_same σ.objects (next_number σ) (Some y) None h

-- what is there after it was there, or is the one that was added
pub lookup-new : (σ : Store) (y : Object) (b : Bool) (o : ℕ) (z : Object) → lookup σ o ≡ None → lookup (add σ y b) o ≡ Some z → (o ≡ next_number σ) × (y ≡ z)
unfolding lookup add
lookup-new σ y b o z e f = go (eqb (next_number σ) o) refl
  where
    go : (t : Bool) → eqb (next_number σ) o ≡ t → (o ≡ next_number σ) × (y ≡ z)
    go true h =
        let p = eqb-true (next_number σ) o h in
        let l = subst (λ (n : ℕ). n < length σ.objects) (sym p) (subst (λ (n : ℕ). o < n) (length-set σ.objects (next_number σ) (Some y)) (found_below (set σ.objects (next_number σ) (Some y)) o z f)) in
        let g : Some y ≡ Some z = sym (get_or-set_same σ.objects (next_number σ) (Some y) None l) ∙ (ap (λ (n : ℕ). get_or (set σ.objects (next_number σ) (Some y)) n None) p ∙ f) in
        (sym p, cc)
    go false h = let g : None ≡ Some z = sym e ∙ (sym (set_other σ.objects (next_number σ) o (Some y) h) ∙ f) in absurd (false≢true cc)

-- an object keeps its mark, and the next one has its own
pub function-add : (σ : Store) → Fresh σ → (y : Object) (b : Bool) (o : ℕ) (x : Object) → lookup σ o ≡ Some x → is_function (add σ y b) o ≡ is_function σ o
unfolding add
function-add σ f y b o x e = bit-with σ.callable (next_number σ) o b ∙ rw (next-other σ f o x e)

pub function-new : (σ : Store) (y : Object) (b : Bool) → is_function (add σ y b) (next_number σ) ≡ b
unfolding add
function-new σ y b = bit-with σ.callable (next_number σ) (next_number σ) b ∙ rw (eq-eqb (next_number σ) (next_number σ) refl)

-- the marks of live objects
pub live-mark : (xs : List (Option Object)) (o : ℕ) → bit (live_marks xs) o ≡ is_live (get_or xs o None)
unfolding live_marks
live-mark [] o = none-set o
  where
    none-set : (i : ℕ) → bit 0 i ≡ false
    none-set i = rw (zero-div (2 ^ i))
live-mark (x ∷ xs) zero = bit-first (is_live x) (live_marks xs)
live-mark (x ∷ xs) (suc o) = bit-next (is_live x) (live_marks xs) o ∙ live-mark xs o

pub own-add : (σ : Store) (y : Object) (c : Bool) (b : ℕ) (l : PropertyKey) → own (add σ y c) b l ≡ own σ b l
unfolding own add
own-add σ y c b l = refl

-- an entry of one place is of no other
apart : (e : Entry) (o : ℕ) (k : PropertyKey) (b : ℕ) (l : PropertyKey) → is_at e o k ≡ false → is_at e b l ≡ true → same_place o k b l ≡ false
unfolding is_at
apart e o k b l h g = refuted _ λ same.
    let (p, q) = place-eq o k b l same in
    let (r, s) = place-eq e.owner e.key b l g in
    true≢false (sym (rw (r ∙ sym p, s ∙ sym q) (place-refl o k)) ∙ h)

like : (e : Entry) (o : ℕ) (k : PropertyKey) (b : ℕ) (l : PropertyKey) → is_at e o k ≡ true → is_at e b l ≡ same_place o k b l
unfolding is_at
like e o k b l h = let (r, s) = place-eq e.owner e.key o k h in rw (r, s)

module _ (x y z : Option Property) where
  cond_same : (b : Bool) → cond b x z ≡ cond b x (cond b y z)
  cond_same true = refl
  cond_same false = refl

  cond-swap : (a b : Bool) → (a ≡ true → b ≡ false) → cond a y (cond b x z) ≡ cond b x (cond a y z)
  cond-swap true true h = absurd (true≢false (h refl))
  cond-swap true false h = refl
  cond-swap false true h = refl
  cond-swap false false h = refl

pub find-insert : (es : List Entry) (o : ℕ) (k : PropertyKey) (p : Property) (b : ℕ) (l : PropertyKey)
    → find (insert es o k p) b l ≡ cond (same_place o k b l) (Some p) (find es b l)
unfolding find insert is_at
find-insert [] o k p b l = refl
find-insert (e ∷ es) o k p b l = go (is_at e o k) refl (find-insert es o k p b l)
  where
    go : (t : Bool) → is_at e o k ≡ t → find (insert es o k p) b l ≡ cond (same_place o k b l) (Some p) (find es b l)
        → find (cond t (record { owner = o; key = k; property = p } ∷ es) (e ∷ insert es o k p)) b l
        ≡ cond (same_place o k b l) (Some p) (cond (is_at e b l) (Some e.property) (find es b l))
    go true h ih = rw (like e o k b l h) (cond_same _ _ _ (same_place o k b l))
    go false h ih = rw ih (cond-swap _ _ _ (is_at e b l) (same_place o k b l) (apart e o k b l h))

pub find-remove : (es : List Entry) (o : ℕ) (k : PropertyKey) (b : ℕ) (l : PropertyKey)
    → find (remove es o k) b l ≡ cond (same_place o k b l) None (find es b l)
unfolding find remove excluding
find-remove [] o k b l = sym (both (same_place o k b l))
  where
    both : (t : Bool) → cond {A = Option Property} t None None ≡ None
    both true = refl
    both false = refl
find-remove (e ∷ es) o k b l = go (is_at e o k) refl (find-remove es o k b l)
  where
    go : (t : Bool) → is_at e o k ≡ t → find (remove es o k) b l ≡ cond (same_place o k b l) None (find es b l)
        → find (cond t (remove es o k) (e ∷ remove es o k)) b l
        ≡ cond (same_place o k b l) None (cond (is_at e b l) (Some e.property) (find es b l))
    go true h ih = rw (like e o k b l h) (ih ∙ cond_same _ _ _ (same_place o k b l))
    go false h ih = rw ih (cond-swap _ _ _ (is_at e b l) (same_place o k b l) (apart e o k b l h))

pub own-with : (σ : Store) (o : ℕ) (k : PropertyKey) (p : Property) (b : ℕ) (l : PropertyKey)
    → own (with_property σ o k p) b l ≡ cond (same_place o k b l) (Some p) (own σ b l)
unfolding own with_property
own-with σ o k p b l = find-insert σ.properties o k p b l

pub own-without : (σ : Store) (o : ℕ) (k : PropertyKey) (b : ℕ) (l : PropertyKey)
    → own (without_property σ o k) b l ≡ cond (same_place o k b l) None (own σ b l)
unfolding own without_property
own-without σ o k b l = find-remove σ.properties o k b l
