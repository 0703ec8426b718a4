-- Characters of texts: separators, numbers in decimal digits, bytes in lowercase hexadecimal ones and back. Assumes nothing.
use Rattle.std.specs.Prelude.{ℕ, zero, suc, ◌+◌, ◌-◌, ◌*◌, ◌/◌, ◌%◌, Bool, true, ◌&&◌, cond, List, [], ◌∷◌, ◌++◌, ltb, leb, Option, None, Some}

abbrev pub space : ℕ
space = 32

abbrev pub line_feed : ℕ
line_feed = 10

-- the characters of ASCII from the space on
unfoldable pub are_printable : List ℕ → Bool
are_printable [] = true
are_printable (b ∷ bytes) = (leb 32 b && leb b 126) && are_printable bytes

-- the decimal digits of a number, at most 1 + bound of them
unfoldable pub decimal_within : ℕ → ℕ → List ℕ
decimal_within zero n = (48 + n % 10) ∷ []
decimal_within (suc bound) n = cond (ltb n 10) ((48 + n) ∷ []) (decimal_within bound (n / 10) ++ ((48 + n % 10) ∷ []))

-- no number has more digits than itself and one
abbrev pub decimal : ℕ → List ℕ
decimal n = decimal_within n n

abbrev pub digit_for : ℕ → ℕ
digit_for n = cond (ltb n 10) (48 + n) (87 + n)

unfoldable pub hexadecimal : List ℕ → List ℕ
hexadecimal [] = []
hexadecimal (b ∷ bytes) = digit_for (b / 16) ∷ digit_for (b % 16) ∷ hexadecimal bytes

-- the number that a digit is: 0 to 9, a to f
unfoldable pub digit_of : ℕ → Option ℕ
digit_of b = cond (leb 48 b && leb b 57) (Some (b - 48)) (cond (leb 97 b && leb b 102) (Some (b - 87)) None)

abbrev pub with_byte : Option ℕ → Option ℕ → Option (List ℕ) → Option (List ℕ)
with_byte None low rest = None
with_byte (Some high) None rest = None
with_byte (Some high) (Some low) None = None
with_byte (Some high) (Some low) (Some bytes) = Some ((16 * high + low) ∷ bytes)

-- the bytes that digits are, two for each; none where one is no digit or the last byte has one alone
unfoldable pub bytes_in : List ℕ → Option (List ℕ)
bytes_in [] = Some []
bytes_in (a ∷ []) = None
bytes_in (a ∷ b ∷ digits) = with_byte (digit_of a) (digit_of b) (bytes_in digits)
