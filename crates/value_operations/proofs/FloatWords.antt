-- A float and its word: every NaN is one. Assumes nothing.
use Prim.Native.Nat.{ℕ}
use mathlib.Core.Path.{◌≡◌, refl, sym, ap, ◌∙◌, subst}
use mathlib.Core.Bool.{Bool, true, false, not, false≢true}
use lib.Dec.{T}
use lib.Ieee.{Float, nan, inf, fin, binary64, ne, is_nan, to_bits, of_bits, nan_bits, fits}
use lib.Ieee.Bits.{nan_bits_is, of_bits-to_bits}
use lib.Ieee.Compare.{nan_differs}
use Rattle.value.proofs.Bools.{bool-ext}
use Rattle.value.proofs.Numbers.{is-nan}

pub no_nan : (n : ℕ) → nan_bits binary64 n ≡ false → T (not (nan_bits binary64 n))
no_nan n e = subst (λ (b : Bool). T (not b)) (sym e) tt

canonical_nan : of_bits binary64 9221120237041090560 ≡ nan
unfolding of_bits
canonical_nan = refl

only_nan : (x : Float) → is_nan x ≡ true → x ≡ nan
unfolding is_nan
only_nan nan e = refl
only_nan (inf s) e = absurd (false≢true e)
only_nan (fin s m d) e = absurd (false≢true e)

-- a NaN is what differs from itself
pub differs : (x : Float) → is_nan x ≡ ne x x
unfolding is_nan
differs x = bool-ext _ _ (λ h. rw (only_nan x h) nan_differs) (λ h. rw (is-nan x h) refl)

pub nan-of : (n : ℕ) → nan_bits binary64 n ≡ true → of_bits binary64 9221120237041090560 ≡ of_bits binary64 n
nan-of n e = canonical_nan ∙ sym (only_nan (of_bits binary64 n) (sym (nan_bits_is binary64 n) ∙ e))

pub nan-word : (x : Float) → is_nan x ≡ true → 9221120237041090560 ≡ to_bits binary64 x
unfolding to_bits
nan-word x e = rw (only_nan x e)

pub word_back : (x : Float) (r : ℕ) → T (fits binary64 x) → r ≡ to_bits binary64 x → (r ≡ to_bits binary64 x) × (of_bits binary64 r ≡ x)
word_back x r f e = (e, ap (of_bits binary64) e ∙ of_bits-to_bits binary64 x f)
