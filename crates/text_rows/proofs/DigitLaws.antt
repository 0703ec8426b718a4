-- A number digit by digit, and bytes two digits at a time. Assumes nothing.
use Prim.Native.Nat.{ℕ, zero, suc, ◌+◌, ◌*◌, ◌/◌, ◌%◌, ◌^◌, ◌<◌, ◌≤◌}
use native.Mathlib.Nat.{pow-succ'}
use native.Mathlib.Numerals.{add-one}
use native.Mathlib.Omega.{arith}
use mathlib.Core.Path.{◌≡◌, refl, ap, ◌∙◌}
use mathlib.Core.Bool.{Bool, true, false, cond}
use mathlib.Core.List.{List, [], ◌∷◌, ◌++◌, append_assoc}
use lib.Dec.{ltb}
use lib.ListN.{length, get_or, set, drop, length-append, drop_of_length-le}
use lib.Seq.{sets, drop-cons}
use borrow.Author.Tests.{ltb-true, ltb-false, lt-ltb, le-ltb}
use Rattle.record.specs.Characters.{decimal_within, decimal, digit_for, hexadecimal}

by-test : (n : ℕ) (a b c : List ℕ) (t : Bool) → ltb n 10 ≡ t → (10 ≤ n → b ≡ c) → cond t a b ≡ cond t a c
by-test n a b c true e f = refl
by-test n a b c false e f = f (ltb-false n 10 e)

-- every bound that is no less than the number gives the same digits
within : (a b n : ℕ) → n ≤ a → n ≤ b → decimal_within a n ≡ decimal_within b n
unfolding decimal_within
within zero zero n h k = refl
within zero (suc b) n h k = let e : n ≡ 0 = omega arith in rw e
within (suc a) zero n h k = let e : n ≡ 0 = omega arith in rw e
within (suc a) (suc b) n h k = by-test n _ _ _ (ltb n 10) refl (λ l. ap (λ (ds : List ℕ). ds ++ ((48 + n % 10) ∷ [])) (within a b (n / 10) (omega arith) (omega arith)))

pub one-digit : (n : ℕ) → n < 10 → decimal n ≡ (48 + n) ∷ []
unfolding decimal_within
one-digit zero h = refl
one-digit (suc n) h = rw (lt-ltb (suc n) 10 h)

more-digits : (n : ℕ) → 10 ≤ n → decimal n ≡ decimal (n / 10) ++ ((48 + n % 10) ∷ [])
unfolding decimal_within
more-digits zero h = absurd (omega arith)
more-digits (suc n) h = rw (le-ltb (suc n) 10 h, within n (suc n / 10) (suc n / 10) (omega arith) (omega arith))

length_more : (n : ℕ) → 10 ≤ n → length (decimal n) ≡ length (decimal (n / 10)) + 1
length_more n h = rw (more-digits n h) (length-append (decimal (n / 10)) ((48 + n % 10) ∷ []))

pub two-decimal : (n : ℕ) → 10 ≤ n → n < 100 → decimal n ≡ (48 + n / 10) ∷ (48 + n % 10) ∷ []
two-decimal n h k = rw (more-digits n h, one-digit (n / 10) (omega arith))

pub by-hundred : (n : ℕ) → 100 ≤ n → decimal n ≡ decimal (n / 100) ++ ((48 + n / 10 % 10) ∷ (48 + n % 10) ∷ [])
by-hundred n h =
    let e : n / 10 / 10 ≡ n / 100 = omega arith in
    more-digits n (omega arith) ∙ rw (more-digits (n / 10) (omega arith), e) (append_assoc (decimal (n / 100)) ((48 + n / 10 % 10) ∷ []) ((48 + n % 10) ∷ []))

pub length-hundred : (n : ℕ) → 100 ≤ n → length (decimal n) ≡ length (decimal (n / 100)) + 2
length-hundred n h = rw (by-hundred n h) (length-append (decimal (n / 100)) ((48 + n / 10 % 10) ∷ (48 + n % 10) ∷ []))

below : (k n : ℕ) → n < 10 ^ suc k → length (decimal n) ≤ suc k
below zero n h = rw (one-digit n (omega arith)) (omega arith)
below (suc k) n h =
    let p : 10 ^ suc (suc k) ≡ 10 * 10 ^ suc k = pow-succ' 10 (suc k) in
    by (ltb n 10) refl (below k (n / 10) (omega arith))
  where
    by : (t : Bool) → ltb n 10 ≡ t → length (decimal (n / 10)) ≤ suc k → length (decimal n) ≤ suc (suc k)
    by true e f = rw (one-digit n (ltb-true n 10 e)) (omega arith)
    by false e f = omega (arith, length_more n (ltb-false n 10 e))

-- a word has at most 20 digits
pub decimal-fits : (n : ℕ) → n < 2 ^ 64 → length (decimal n) ≤ 20
decimal-fits n h = below 19 n (omega arith)

pub two_digits : (out bytes : List ℕ) (next i : ℕ) → i < length bytes
    → sets out next (hexadecimal (drop i bytes))
    ≡ sets (set (set out next (digit_for (get_or bytes i 0 / 16))) (next + 1) (digit_for (get_or bytes i 0 % 16))) (next + 2) (hexadecimal (drop (i + 1) bytes))
unfolding hexadecimal
two_digits out bytes next i h =
    let e : next + 2 ≡ suc (suc next) = omega arith in
    rw (drop-cons bytes i 0 h, add-one i, add-one next, e)

pub no-digits : (out bytes : List ℕ) (next i : ℕ) → length bytes ≤ i → sets out next (hexadecimal (drop i bytes)) ≡ out
unfolding hexadecimal
no-digits out bytes next i h = rw (drop_of_length-le bytes {i = i} h)
