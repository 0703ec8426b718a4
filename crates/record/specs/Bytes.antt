-- Numbers and values in bytes, little-endian: docs/REFERENCE.md, Values. Assumes nothing.
use Rattle.std.specs.Prelude.{ℕ, zero, suc, ◌+◌, ◌*◌, ◌/◌, ◌%◌, Bool, true, ◌&&◌, cond, List, [], ◌∷◌, eqb, get_or}
use Rattle.value.specs.declared.Value.{Value}
use Rattle.value.specs.Words.{kind_of, payload_of, value_of, is_formed}

abbrev pub byte_at : List ℕ → ℕ → ℕ
byte_at bytes i = get_or bytes i 0

-- the number in n bytes from i on
unfoldable pub number_at : List ℕ → ℕ → ℕ → ℕ
number_at bytes i zero = 0
number_at bytes i (suc n) = byte_at bytes i + 256 * number_at bytes (suc i) n

-- the n low bytes of a number
unfoldable pub bytes_of : ℕ → ℕ → List ℕ
bytes_of zero x = []
bytes_of (suc n) x = x % 256 ∷ bytes_of n (x / 256)

-- are n bytes from i on all zero?
unfoldable pub are_zero : List ℕ → ℕ → ℕ → Bool
are_zero bytes i zero = true
are_zero bytes i (suc n) = eqb (byte_at bytes i) 0 && are_zero bytes (suc i) n

-- one byte for the kind, eight for the payload
abbrev pub value_size : ℕ
value_size = 9

unfoldable pub value_at : List ℕ → ℕ → Value
value_at bytes i = value_of (byte_at bytes i) (number_at bytes (suc i) 8)

unfoldable pub is_value_at : List ℕ → ℕ → Bool
is_value_at bytes i = is_formed (byte_at bytes i) (number_at bytes (suc i) 8)

unfoldable pub value_bytes : Value → List ℕ
value_bytes v = kind_of v ∷ bytes_of 8 (payload_of v)

-- a part that is used holds a value, and one that is not is zero
unfoldable pub is_part_at : Bool → List ℕ → ℕ → Bool
is_part_at used bytes i = cond used (is_value_at bytes i) (are_zero bytes i value_size)
