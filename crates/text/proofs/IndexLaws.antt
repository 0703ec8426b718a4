-- The number of a string's digits, one digit at a time. Assumes nothing.
use Rattle.std.specs.Prelude.{Option, None, Some}
use Prim.Native.Nat.{ℕ, ◌+◌, ◌*◌, ◌-◌, ◌^◌, ◌≤◌, ◌<◌}
use native.Mathlib.Nat.{pow-succ'}
use native.Mathlib.Numerals.{add-one}
use native.Mathlib.Omega.{arith}
use mathlib.Core.Path.{◌≡◌, refl}
use mathlib.Core.Bool.{Bool, true, false, ◌&&◌, cond}
use mathlib.Core.List.{List, [], ◌∷◌}
use lib.Dec.{leb, ltb}
use lib.ListN.{length, get_or, drop, drop_of_length-le}
use lib.Seq.{drop-cons}
use borrow.Author.Tests.{le-leb, lt-leb, lt-ltb, le-ltb, eq-eqb, ne_eqb}
use Rattle.property.specs.ArrayIndex.{is_digit, decimal, within_index, array_index}

pub more : (n d i : ℕ) → n < 10 ^ i → d ≤ 9 → 10 * n + d < 10 ^ (i + 1)
more n d i h k = rw (add-one, pow-succ') (omega arith)

pub digit : (c : ℕ) → 48 ≤ c → c < 58 → is_digit c ≡ true
digit c l h = rw (le-leb 48 c l, le-leb c 57 (omega arith))

pub below : (c : ℕ) → c < 48 → is_digit c ≡ false
below c h = rw (lt-leb 48 c h)

and-false : (a : Bool) → (a && false) ≡ false
and-false true = refl
and-false false = refl

pub above : (c : ℕ) → 57 < c → is_digit c ≡ false
above c h = rw (lt-leb c 57 h) (and-false (leb 48 c))

module _ (n : ℕ) (units : List ℕ) (i : ℕ) (inside : i < length units) where
  pub next-digit : is_digit (get_or units i 0) ≡ true → decimal n (drop i units) ≡ decimal (10 * n + (get_or units i 0 - 48)) (drop (i + 1) units)
  unfolding decimal
  next-digit e = rw (drop-cons units i 0 inside, e, add-one)

  pub no_digit : is_digit (get_or units i 0) ≡ false → decimal n (drop i units) ≡ None
  unfolding decimal
  no_digit e = rw (drop-cons units i 0 inside, e)

pub at-end : (n : ℕ) (units : List ℕ) (i : ℕ) → length units ≤ i → decimal n (drop i units) ≡ Some n
unfolding decimal
at-end n units i h = rw (drop_of_length-le units {i = i} h)

-- Which case of the definition a string is, by its first unit and its length

pub is-empty : (units : List ℕ) → length units ≡ 0 → array_index units ≡ None
unfolding array_index
is-empty [] h = refl
is-empty (c ∷ cs) h = absurd (omega arith)

pub is_zero : (units : List ℕ) → get_or units 0 0 ≡ 48 → length units ≡ 1 → array_index units ≡ Some 0
unfolding array_index
is_zero [] e h = absurd (omega arith)
is_zero (c ∷ []) e h = rw (eq-eqb c 48 e)
is_zero (c ∷ (d ∷ cs)) e h = absurd (omega arith)

pub is-padded : (units : List ℕ) → get_or units 0 0 ≡ 48 → (length units ≡ 1 → ⊥) → array_index units ≡ None
unfolding array_index
is-padded [] e h = refl
is-padded (c ∷ []) e h = absurd (h refl)
is-padded (c ∷ (d ∷ cs)) e h = rw (eq-eqb c 48 e)

pub is_number : (units : List ℕ) → (get_or units 0 0 ≡ 48 → ⊥) → 0 < length units → length units ≤ 10 → array_index units ≡ within_index (decimal 0 units)
unfolding array_index
is_number [] e p h = absurd (omega arith)
is_number (c ∷ cs) e p h = rw (ne_eqb c 48 e, lt-ltb (length cs) 10 (omega arith))

pub is-long : (units : List ℕ) → (get_or units 0 0 ≡ 48 → ⊥) → 10 < length units → array_index units ≡ None
unfolding array_index
is-long [] e h = absurd (omega arith)
is-long (c ∷ cs) e h = rw (ne_eqb c 48 e, le-ltb (length cs) 10 (omega arith))

either-none : {A : Type 0} (b : Bool) → ◌≡◌ {A = Option A} (cond b None None) None
either-none true = refl
either-none false = refl

pub is-other : (units : List ℕ) → is_digit (get_or units 0 0) ≡ false → (get_or units 0 0 ≡ 48 → ⊥) → array_index units ≡ None
unfolding array_index decimal
is-other [] d e = refl
is-other (c ∷ cs) d e = rw (ne_eqb c 48 e, d) (either-none (ltb (length cs) 10))
