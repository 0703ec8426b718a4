-- Which Numbers are true: not the zeros and not NaN. Assumes nothing.
use Prim.Native.Nat.{ℕ, zero, suc, ◌*◌, ◌/◌, ◌<◌, ◌^◌}
use native.Mathlib.Omega.{arith}
use native.Mathlib.Nat.{mul-pos, zero-mul, zero-div}
use mathlib.Core.Path.{◌≡◌, refl, sym, ap, ◌∙◌}
use mathlib.Core.Bool.{Bool, true, false, not, ◌&&◌, ◌||◌, beq, cond, true≢false, false≢true}
use lib.Dec.{eqb, le→leb, lt→ltb}
use borrow.Author.Tests.{eqb-true, eq-eqb, ne_eqb}
use lib.IntN.{ℤ, pos, negsuc, neg_ℤ}
use lib.Ieee.{Float, nan, inf, fin, binary64, ne, eq, up, down, of_bits, of_fields, odd, of_int, to_signed, in_float}
use lib.Ieee.Compare.{nan_differs}
use lib.Ieee.Fits.{up_pos}
use lib.Ieee.Back.{positive_back, negative_back}
use mir.Syntax.{w32}
use mir.Val.{SFits, of_z}
use Rattle.value.specs.Value.{is_zero, is_not_a_number}
use Rattle.value.proofs.Bools.{refuted}
use Rattle.value.proofs.Numbers.{is-nan}

pub nan-untrue : (x : Float) → ne x x ≡ true → false ≡ (not (is_zero x) && not (is_not_a_number x))
nan-untrue x e = rw (is-nan x e)

absorbs : (a b : Bool) → (a && (b || a)) ≡ a
absorbs true true = refl
absorbs true false = refl
absorbs false b = refl

and_no : (a : Bool) → a ≡ (a && not false)
and_no true = refl
and_no false = refl

plus-zero : of_bits binary64 0 ≡ fin false 0 (pos 0)
unfolding of_bits of_fields odd
plus-zero = refl

nonzero : (n : ℕ) → eqb (suc n) 0 ≡ false
nonzero n = ne_eqb (suc n) 0 (λ e. omega arith)

scaled : (m k : ℕ) → 0 < k → eqb (m * k * 1) 0 ≡ eqb m 0
scaled zero k h = eq-eqb (zero * k * 1) 0 (omega arith)
scaled (suc m) k h =
    let p : 0 < suc m * k = mul-pos (omega arith) h in
    ne_eqb (suc m * k * 1) 0 (λ e. omega arith) ∙ sym (nonzero m)

finite-zero : (s : Bool) (m : ℕ) (e : ℤ) → eq (fin s m e) (fin false 0 (pos 0)) ≡ eqb m 0
unfolding eq
finite-zero s m e = let z : 0 * down e ≡ 0 = omega arith in rw (z, scaled m (up e) (up_pos e)) (absorbs (eqb m 0) (beq s false))

pub number-true : (x : Float) → ne x x ≡ false → ne x (of_bits binary64 0) ≡ (not (is_zero x) && not (is_not_a_number x))
unfolding ne
number-true nan h = absurd (true≢false (sym nan_differs ∙ h))
number-true (inf s) h = rw plus-zero
number-true (fin s m e) h = rw (plus-zero, finite-zero s m e) (and_no (not (eqb m 0)))

zero-int : (x : Float) → is_zero x ≡ true → to_signed 31 x ≡ pos 0
unfolding to_signed
zero-int nan h = refl
zero-int (inf s) h = absurd (false≢true h)
zero-int (fin s m e) h =
    let q : m * up e / down e ≡ 0 = rw (eqb-true m 0 h, zero-mul, zero-div) in
    rw q (signed s)
  where
    signed : (s : Bool) → cond s (neg_ℤ (pos 0)) (pos 0) ≡ pos 0
    signed true = refl
    signed false = refl

no-int : is_zero (of_int binary64 (pos 0)) ≡ true
unfolding of_int
no-int = refl

pub int-true : (z : ℤ) → SFits w32 z → not (eqb (of_z w32 z) 0) ≡ not (is_zero (of_int binary64 z))
unfolding in_float
int-true (pos zero) s = ap not (sym no-int)
int-true (pos (suc n)) s =
    ap not (nonzero n ∙ sym (refuted _ (λ h.
    let l = s.sfits in
    let b = (positive_back binary64 31 (suc n) (le→leb (suc n) (2 ^ 53) (omega arith)) l).1 in
    let z = zero-int (of_int binary64 (pos (suc n))) h in
    let q : suc n ≡ 0 = cc in
    omega arith)))
int-true (negsuc k) s =
    let l : k < 2 ^ 31 = s.sfits in
    ap not (ne_eqb (of_z w32 (negsuc k)) 0 (λ e. omega arith) ∙ sym (refuted _ (λ h.
    let b = (negative_back binary64 31 k (lt→ltb k (2 ^ 53) (omega arith)) l).1 in
    let z = zero-int (of_int binary64 (negsuc k)) h in
    let q : ◌≡◌ {A = ℕ} 0 1 = cc in
    omega arith)))
