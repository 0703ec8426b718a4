-- No place of the table of properties has two entries, whatever is written. Assumes nothing.
use Rattle.std.specs.Prelude.{Option, None, Some, slice_get}
use Prim.Native.Nat.{ℕ, zero, suc}
use mathlib.Core.Path.{◌≡◌, refl, sym, ◌∙◌}
use mathlib.Core.Bool.{Bool, true, false, cond, false≢true, true≢false}
use mathlib.Core.List.{List, [], ◌∷◌}
use Rattle.value.specs.declared.PropertyKey.{PropertyKey}
use Rattle.value.proofs.Bools.{refuted}
use Rattle.property.specs.declared.Property.{Property}
use Rattle.store.specs.declared.Entry.{Entry}
use Rattle.store.specs.Store.{is_at, find, insert, excluding, remove}
use Rattle.store.proofs.StoreLaws.{same_place, place-refl, place-eq, find-insert}

-- behind an entry there is none of its place
pub data Distinct : List Entry → Type 0 where
  nil : Distinct []
  cons : {e : Entry} {es : List Entry} → find es e.owner e.key ≡ None → Distinct es → Distinct (e ∷ es)

present-absent : {C : Type 0} {x : Option Property} {p : Property} → x ≡ Some p → x ≡ None → C
present-absent {p = p} e f = let g : Some p ≡ None = sym e ∙ f in absurd (false≢true cc)

-- so an entry is what its place has
pub found-entry : (es : List Entry) → Distinct es → (i : ℕ) (e : Entry) → slice_get es i ≡ Some e → find es e.owner e.key ≡ Some e.property
unfolding find is_at
found-entry [] d i e h = absurd (false≢true cc)
found-entry (f ∷ es) d zero e h = let q : f ≡ e = cc in rw (q, place-refl e.owner e.key)
found-entry (f ∷ es) (cons a d) (suc i) e h =
    let there = found-entry es d i e h in
    let other : is_at f e.owner e.key ≡ false = refuted _ λ t. let (p, q) = place-eq f.owner f.key e.owner e.key t in present-absent there (rw (← p, ← q) a) in
    rw (other, there)

pub distinct-insert : (es : List Entry) (o : ℕ) (k : PropertyKey) (p : Property) → Distinct es → Distinct (insert es o k p)
unfolding find insert is_at
distinct-insert [] o k p nil = cons {e = record { owner = o; key = k; property = p }} refl nil
distinct-insert (e ∷ es) o k p (cons a d) = go (is_at e o k) refl (distinct-insert es o k p d)
  where
    go : (t : Bool) → is_at e o k ≡ t → Distinct (insert es o k p) → Distinct (cond t (record { owner = o; key = k; property = p } ∷ es) (e ∷ insert es o k p))
    go true h ih = let (q, r) = place-eq e.owner e.key o k h in cons {e = record { owner = o; key = k; property = p }} {es = es} (rw (← q, ← r) a) d
    go false h ih =
        let other : same_place o k e.owner e.key ≡ false = refuted _ λ t. let (q, r) = place-eq o k e.owner e.key t in true≢false (sym (rw (q, r) (place-refl e.owner e.key)) ∙ h) in
        cons (find-insert es o k p e.owner e.key ∙ rw (other, a)) ih

absent-excluding : (test : Entry → Bool) (es : List Entry) (o : ℕ) (k : PropertyKey) → find es o k ≡ None → find (excluding test es) o k ≡ None
unfolding find excluding
absent-excluding test [] o k h = refl
absent-excluding test (e ∷ es) o k h = go (test e) (is_at e o k) refl h (absent-excluding test es o k)
  where
    go : (t u : Bool) → is_at e o k ≡ u → cond u (Some e.property) (find es o k) ≡ None → (find es o k ≡ None → find (excluding test es) o k ≡ None)
        → find (cond t (excluding test es) (e ∷ excluding test es)) o k ≡ None
    go t true f g ih = present-absent refl g
    go true false f g ih = ih g
    go false false f g ih = rw f (ih g)

pub distinct-excluding : (test : Entry → Bool) (es : List Entry) → Distinct es → Distinct (excluding test es)
unfolding excluding
distinct-excluding test [] nil = nil
distinct-excluding test (e ∷ es) (cons a d) = go (test e) (distinct-excluding test es d)
  where
    go : (t : Bool) → Distinct (excluding test es) → Distinct (cond t (excluding test es) (e ∷ excluding test es))
    go true ih = ih
    go false ih = cons (absent-excluding test es e.owner e.key a) ih

pub distinct_remove : (es : List Entry) (o : ℕ) (k : PropertyKey) → Distinct es → Distinct (remove es o k)
unfolding remove
distinct_remove es o k d = distinct-excluding _ es d
