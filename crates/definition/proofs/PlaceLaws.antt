-- A change at the place of a property. Assumes nothing.
use Rattle.std.specs.Prelude.{Some}
use Prim.Native.Nat.{ℕ, suc, ◌-◌, ◌≤◌}
use native.Mathlib.Omega.{arith}
use mathlib.Core.Path.{◌≡◌, refl}
use mathlib.Core.Bool.{Bool, true, false}
use mathlib.Core.List.{List, [], ◌∷◌}
use Rattle.value.specs.declared.PropertyKey.{PropertyKey}
use Rattle.property.specs.declared.Property.{Property}
use Rattle.store.specs.declared.Entry.{Entry}
use Rattle.store.specs.Store.{Store, is_at, with_change, with_property}
use Rattle.store.proofs.FindLaws.{First, first-replaced}
use Rattle.store.proofs.FindLaws.First.{here, later}
use Rattle.store_read.specs.Answers.{first_place, find_place}

-- what is found at a place is the first there
first-here : (o : ℕ) (k : PropertyKey) (es : List Entry) (s i : ℕ) → first_place (λ (e : Entry). is_at e o k) s es ≡ Some i
    → (s ≤ i) × First o k es (i - s)
unfolding first_place
first-here o k [] s i h = let z : ◌≡◌ {A = ℕ} 0 1 = cc in absurd (omega arith)
first-here o k (e ∷ es) s i h = go (is_at e o k) refl (first-here o k es (suc s) i)
  where
    go : (b : Bool) → is_at e o k ≡ b → (first_place (λ (e : Entry). is_at e o k) (suc s) es ≡ Some i → (suc s ≤ i) × First o k es (i - suc s))
        → (s ≤ i) × First o k (e ∷ es) (i - s)
    go true q ih =
        let p : Some s ≡ Some i = rw q at h in
        let z : s ≡ i = cc in
        let y : i - s ≡ 0 = omega arith in
        (omega arith, rw y (here q))
    go false q ih =
        let p : first_place (λ (e : Entry). is_at e o k) (suc s) es ≡ Some i = rw q at h in
        let (l, f) = ih p in
        let y : i - s ≡ suc (i - suc s) = omega arith in
        (omega arith, rw y (later q f))

-- a change at the place is the property written
pub place_changed : (σ : Store) (o : ℕ) (k : PropertyKey) (i : ℕ) (p : Property) → find_place σ.properties o k ≡ Some i
    → with_change σ i p ≡ with_property σ o k p
unfolding find_place with_change with_property
place_changed σ o k i p h =
    let (l, f) = first-here o k σ.properties 0 i h in
    let y : i - 0 ≡ i = omega arith in
    let g : First o k σ.properties i = rw y at f in
    rw (first-replaced o k σ.properties i p g)
