-- The bits of a number. Assumes nothing.
use Rattle.std.specs.Prelude.{ℕ, suc, ◌+◌, ◌*◌, ◌/◌, ◌%◌, ◌^◌, Bool, true, false, eqb}

abbrev pub bit : ℕ → ℕ → Bool
bit n i = eqb (n / 2 ^ i % 2) 1

abbrev pub weight : Bool → ℕ → ℕ
weight true n = n
weight false n = 0

-- the number with b for its bit i, and its other bits
unfoldable pub with_bit : ℕ → ℕ → Bool → ℕ
with_bit n i b = n % 2 ^ i + weight b (2 ^ i) + 2 ^ suc i * (n / 2 ^ suc i)
