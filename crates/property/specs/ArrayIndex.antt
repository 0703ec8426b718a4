-- ECMA-262 6.1.7: which strings are array indices, as numbers up to 2^32 - 2. Assumes nothing.
use Rattle.std.specs.Prelude.{ℕ, ◌+◌, ◌*◌, ◌-◌, Bool, ◌&&◌, cond, List, [], ◌∷◌, eqb, leb, ltb, length, Option, None, Some}

-- the digits are the code units 48 to 57
abbrev pub is_digit : ℕ → Bool
is_digit c = leb 48 c && leb c 57

-- the decimal number of the digits, with `n` in front of them
unfoldable pub decimal : ℕ → List ℕ → Option ℕ
decimal n [] = Some n
decimal n (c ∷ cs) = cond (is_digit c) (decimal (10 * n + (c - 48)) cs) None

abbrev pub within_index : Option ℕ → Option ℕ
within_index None = None
within_index (Some n) = cond (leb n 4294967294) (Some n) None

abbrev pub zero_index : List ℕ → Option ℕ
zero_index [] = Some 0
zero_index (c ∷ cs) = None

-- "0" alone, or up to ten digits, the first not 0, of a number up to 4294967294
unfoldable pub array_index : List ℕ → Option ℕ
array_index [] = None
array_index (c ∷ cs) = cond (eqb c 48) (zero_index cs) (cond (ltb (length cs) 10) (within_index (decimal 0 (c ∷ cs))) None)
