-- The bits of a number that has no more than so many, and of one with a bit that is given. Assumes nothing.
use Prim.Native.Nat.{ℕ, zero, suc, ◌+◌, ◌*◌, ◌/◌, ◌%◌, ◌^◌, ◌≤◌, ◌<◌}
use native.Mathlib.Nat.{le_trans, mul-suc, mul-le-mul_left, mul_assoc, pow-succ', one-le-pow, pow-le-pow_right, mod-lt, mod-add-div, div-eq_of_lt, add-mul-div_left, add-mul-mod_self_left}
use native.Mathlib.Omega.{arith}
use mathlib.Core.Path.{◌≡◌, refl, sym, ap, ◌∙◌, subst}
use mathlib.Core.Bool.{Bool, true, false, cond}
use lib.Dec.{eqb, ltb}
use lib.Pow.{shr_lt, shr-shr}
use borrow.Author.Tests.{eqb-true, eqb-false, ltb-true, ltb-false}
use Rattle.value.specs.Bits.{bit, weight, with_bit}

positive : (n : ℕ) → 0 < 2 ^ n
positive n = one-le-pow n 2 (omega arith)

power-sum : (n d : ℕ) → 2 ^ (n + d) ≡ 2 ^ n * 2 ^ d
power-sum zero d = let e : 0 + d ≡ d = omega arith in rw e (omega arith)
power-sum (suc n) d = let e : suc n + d ≡ suc (n + d) = omega arith in ap (λ (x : ℕ). 2 ^ x) e ∙ (pow-succ' 2 (n + d) ∙ (ap (λ (x : ℕ). 2 * x) (power-sum n d) ∙ (sym (mul_assoc 2 (2 ^ n) (2 ^ d)) ∙ ap (λ (x : ℕ). x * 2 ^ d) (sym (pow-succ' 2 n)))))

-- what is added from bit n on leaves the bits before
high : (x z o d : ℕ) → (x + 2 ^ (o + suc d) * z) / 2 ^ o % 2 ≡ x / 2 ^ o % 2
high x z o d =
    let p : 2 ^ (o + suc d) * z ≡ 2 ^ o * (2 * (2 ^ d * z)) =
    ap (λ (y : ℕ). y * z) (power-sum o (suc d) ∙ ap (λ (y : ℕ). 2 ^ o * y) (pow-succ' 2 d))
    ∙ (mul_assoc (2 ^ o) (2 * 2 ^ d) z ∙ ap (λ (y : ℕ). 2 ^ o * y) (mul_assoc 2 (2 ^ d) z)) in
    rw (p, add-mul-div_left x (2 * (2 ^ d * z)) (positive o), add-mul-mod_self_left (x / 2 ^ o) 2 (2 ^ d * z))

below : (o n : ℕ) → o < n → (d : ℕ) × (n ≡ o + suc d)
below zero (suc n) h = (n, omega arith)
below (suc o) (suc n) h = let (d, e) = below o n (omega (arith, h)) in (d, omega (arith, e))
below o zero h = absurd (omega (arith, h))

pub bit_kept : (m n o z : ℕ) → o < n → bit (m % 2 ^ n + 2 ^ n * z) o ≡ bit m o
bit_kept m n o z h =
    let (d, e) = below o n h in
    let a : (m % 2 ^ n + 2 ^ n * z) / 2 ^ o % 2 ≡ m % 2 ^ n / 2 ^ o % 2 = rw e (high (m % 2 ^ (o + suc d)) z o d) in
    let b : (m % 2 ^ n + 2 ^ n * (m / 2 ^ n)) / 2 ^ o % 2 ≡ m % 2 ^ n / 2 ^ o % 2 = rw e (high (m % 2 ^ (o + suc d)) (m / 2 ^ (o + suc d)) o d) in
    let c : m / 2 ^ o % 2 ≡ m % 2 ^ n / 2 ^ o % 2 = ap (λ (x : ℕ). x / 2 ^ o % 2) (sym (mod-add-div m (2 ^ n))) ∙ b in
    ap (λ (x : ℕ). eqb x 1) (a ∙ sym c)

weighed : (b : Bool) (n : ℕ) → weight b n ≡ n * weight b 1
weighed true n = omega arith
weighed false n = omega arith

-- of the bits before n and one at n
pub bit-before : (m n o : ℕ) (b : Bool) → o < n → bit (m % 2 ^ n + weight b (2 ^ n)) o ≡ bit m o
bit-before m n o b h = rw (weighed b (2 ^ n)) (bit_kept m n o (weight b 1) h)

pub bit_at : (m n : ℕ) (b : Bool) → bit (m % 2 ^ n + weight b (2 ^ n)) n ≡ b
bit_at m n b = rw (weighed b (2 ^ n), add-mul-div_left (m % 2 ^ n) (weight b 1) (positive n), div-eq_of_lt (mod-lt m (positive n))) (go b)
  where
    go : (b : Bool) → eqb ((0 + weight b 1) % 2) 1 ≡ b
    go true = refl
    go false = refl

-- Of a number with a bit that is given ----------------------------------------------------

lower : (m n : ℕ) (b : Bool) → m % 2 ^ n + weight b (2 ^ n) < 2 ^ suc n
lower m n b = let l = mod-lt m (positive n) in rw (pow-succ' 2 n) (go b l)
  where
    go : (b : Bool) → m % 2 ^ n < 2 ^ n → m % 2 ^ n + weight b (2 ^ n) < 2 * 2 ^ n
    go true l = omega (arith, l)
    go false l = omega (arith, l)

with-before : (m n o : ℕ) (b : Bool) → o < n → bit (with_bit m n b) o ≡ bit m o
unfolding with_bit
with-before m n o b h =
    let (d, e) = below o n h in
    let s : suc n ≡ o + suc (suc d) = omega (arith, e) in
    let a = high (m % 2 ^ n + weight b (2 ^ n)) (m / 2 ^ suc n) o (suc d) in
    let a : (m % 2 ^ n + weight b (2 ^ n) + 2 ^ suc n * (m / 2 ^ suc n)) / 2 ^ o % 2 ≡ (m % 2 ^ n + weight b (2 ^ n)) / 2 ^ o % 2 =
    subst (λ (x : ℕ). (m % 2 ^ n + weight b (2 ^ n) + 2 ^ x * (m / 2 ^ suc n)) / 2 ^ o % 2 ≡ (m % 2 ^ n + weight b (2 ^ n)) / 2 ^ o % 2) (sym s) a in
    ap (λ (x : ℕ). eqb x 1) a ∙ bit-before m n o b h

with_at : (m n : ℕ) (b : Bool) → bit (with_bit m n b) n ≡ b
unfolding with_bit
with_at m n b =
    let s : suc n ≡ n + suc 0 = omega arith in
    let a = high (m % 2 ^ n + weight b (2 ^ n)) (m / 2 ^ suc n) n 0 in
    let a : (m % 2 ^ n + weight b (2 ^ n) + 2 ^ suc n * (m / 2 ^ suc n)) / 2 ^ n % 2 ≡ (m % 2 ^ n + weight b (2 ^ n)) / 2 ^ n % 2 =
    subst (λ (x : ℕ). (m % 2 ^ n + weight b (2 ^ n) + 2 ^ x * (m / 2 ^ suc n)) / 2 ^ n % 2 ≡ (m % 2 ^ n + weight b (2 ^ n)) / 2 ^ n % 2) (sym s) a in
    ap (λ (x : ℕ). eqb x 1) a ∙ bit_at m n b

with-after : (m n o : ℕ) (b : Bool) → n < o → bit (with_bit m n b) o ≡ bit m o
unfolding with_bit
with-after m n o b h =
    let (d, e) = below n o h in
    let s : o ≡ suc n + d = omega (arith, e) in
    let z = m / 2 ^ suc n in
    let x = m % 2 ^ n + weight b (2 ^ n) in
    let l : (x + 2 ^ suc n * z) / 2 ^ suc n ≡ z = add-mul-div_left x z (positive (suc n)) ∙ (ap (λ (y : ℕ). y + z) (div-eq_of_lt (lower m n b)) ∙ omega arith) in
    let a : (x + 2 ^ suc n * z) / 2 ^ (suc n + d) ≡ m / 2 ^ (suc n + d) = sym (shr-shr (x + 2 ^ suc n * z) (suc n) d) ∙ (ap (λ (y : ℕ). y / 2 ^ d) l ∙ shr-shr m (suc n) d) in
    ap (λ (y : ℕ). eqb (y % 2) 1) (subst (λ (y : ℕ). (x + 2 ^ suc n * z) / 2 ^ y ≡ m / 2 ^ y) (sym s) a)

pub bit-with : (m n o : ℕ) (b : Bool) → bit (with_bit m n b) o ≡ cond (eqb n o) b (bit m o)
bit-with m n o b = go (eqb n o) refl (ltb o n) refl
  where
    go : (t : Bool) → eqb n o ≡ t → (s : Bool) → ltb o n ≡ s → bit (with_bit m n b) o ≡ cond t b (bit m o)
    go true e s f = subst (λ (x : ℕ). bit (with_bit m n b) x ≡ b) (eqb-true n o e) (with_at m n b)
    go false e true f = with-before m n o b (ltb-true o n f)
    go false e false f = with-after m n o b (apart (ltb-false o n f) (ltb n o) refl)
      where
        apart : n ≤ o → (s : Bool) → ltb n o ≡ s → n < o
        apart v true g = ltb-true n o g
        apart v false g = absurd (eqb-false n o e (omega (arith, ltb-false n o g, v)))

-- a number of no more than k bits stays so
pub with-below : (m n k : ℕ) (b : Bool) → n < k → m < 2 ^ k → with_bit m n b < 2 ^ k
unfolding with_bit
with-below m n k b h l =
    let (d, e) = below n k h in
    let s : k ≡ d + suc n = omega (arith, e) in
    let m' : m < 2 ^ (d + suc n) = subst (λ (x : ℕ). m < 2 ^ x) s l in
    let z = shr_lt d (suc n) m' in
    let p : 2 ^ suc n * suc (m / 2 ^ suc n) ≤ 2 ^ suc n * 2 ^ d = mul-le-mul_left (2 ^ suc n) z in
    let q : 2 ^ suc n * 2 ^ d ≡ 2 ^ k = sym (power-sum (suc n) d) ∙ ap (λ (x : ℕ). 2 ^ x) (omega (arith, s)) in
    let r : 2 ^ suc n * suc (m / 2 ^ suc n) ≡ 2 ^ suc n * (m / 2 ^ suc n) + 2 ^ suc n = mul-suc (2 ^ suc n) (m / 2 ^ suc n) in
    let t = lower m n b in
    rw (← q) (omega (arith, p, r, t))

-- of a number by its lowest bit and the others
pub bit-first : (b : Bool) (m : ℕ) → bit (weight b 1 + 2 * m) 0 ≡ b
bit-first true m = let e : (1 + 2 * m) / 1 % 2 ≡ 1 = omega arith in ap (λ (x : ℕ). eqb x 1) e
bit-first false m = let e : (0 + 2 * m) / 1 % 2 ≡ 0 = omega arith in ap (λ (x : ℕ). eqb x 1) e

pub bit-next : (b : Bool) (m i : ℕ) → bit (weight b 1 + 2 * m) (suc i) ≡ bit m i
bit-next b m i =
    let e : 1 + i ≡ suc i = omega arith in
    ap (λ (x : ℕ). eqb (x % 2) 1) (ap (λ (x : ℕ). (weight b 1 + 2 * m) / 2 ^ x) (sym e) ∙ (sym (shr-shr (weight b 1 + 2 * m) 1 i) ∙ ap (λ (x : ℕ). x / 2 ^ i) (half b)))
  where
    half : (b : Bool) → (weight b 1 + 2 * m) / 2 ^ 1 ≡ m
    half true = omega arith
    half false = omega arith

-- a number of no more than k bits has none from k on
pub bit-above : (w k i : ℕ) → w < 2 ^ k → k ≤ i → bit w i ≡ false
bit-above w k i h l = rw (div-eq_of_lt (le_trans h (pow-le-pow_right {n = 2} (omega arith) l)))

-- a word has none from 64 on
pub bit-beyond : (w i : ℕ) → w < 2 ^ 64 → 64 ≤ i → bit w i ≡ false
bit-beyond w i h l = bit-above w 64 i h l
