-- A float that differs from itself is NaN, and off NaN the same Number is the same bits. Assumes nothing.
use mathlib.Core.Path.{◌≡◌, refl, sym, ap, ◌∙◌, subst}
use mathlib.Core.Bool.{Bool, true, false, not, true≢false}
use lib.Dec.{T, eqb}
use borrow.Author.Tests.{eqb-true, eq-eqb}
use lib.Ieee.{Float, nan, inf, fin, binary64, ne, fits, is_nan, to_bits, of_bits}
use lib.Ieee.Compare.{differs_from_itself, nan_differs}
use lib.Ieee.Bits.{of_bits-to_bits}
use Rattle.value.specs.Value.{same_number}
use Rattle.value.proofs.Bools.{bool-ext}
use Rattle.value.proofs.SameValue.{number-refl, number-eq}

pub is-nan : (x : Float) → ne x x ≡ true → x ≡ nan
is-nan x e = differs_from_itself x (subst T (sym e) tt)

nan_same : (y : Float) (b : Bool) → ne y y ≡ b → b ≡ same_number nan y
unfolding same_number
nan_same nan true e = refl
nan_same nan false e = sym e ∙ nan_differs
nan_same (inf s) true e = let q : inf s ≡ nan = is-nan (inf s) e in cc
nan_same (inf s) false e = refl
nan_same (fin s m d) true e = let q : fin s m d ≡ nan = is-nan (fin s m d) e in cc
nan_same (fin s m d) false e = refl

pub left-nan : (x y : Float) → ne x x ≡ true → ne y y ≡ same_number x y
left-nan x y e = rw (is-nan x e) (nan_same y (ne y y) refl)

nan-other : (x : Float) → ne x x ≡ false → false ≡ same_number x nan
unfolding same_number
nan-other nan e = sym e ∙ nan_differs
nan-other (inf s) e = refl
nan-other (fin s m d) e = refl

pub right-nan : (x y : Float) → ne x x ≡ false → ne y y ≡ true → false ≡ same_number x y
right-nan x y e f = rw (is-nan y f) (nan-other x e)

pub same_bits : (x y : Float) → T (fits binary64 x) → T (fits binary64 y) → eqb (to_bits binary64 x) (to_bits binary64 y) ≡ same_number x y
same_bits x y f g =
    bool-ext _ _
    (λ h.
    let p : x ≡ y = sym (of_bits-to_bits binary64 x f) ∙ ap (of_bits binary64) (eqb-true _ _ h) ∙ of_bits-to_bits binary64 y g in
    rw p (number-refl y))
    (λ h. eq-eqb _ _ (ap (to_bits binary64) (number-eq x y h)))
