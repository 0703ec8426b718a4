-- The table of strings in lent memory: a count, then for each string its length and 32 code units. Assumes nothing.
use Rattle.std.specs.Prelude.{ℕ, zero, suc, ◌+◌, ◌*◌, min, Bool, ◌&&◌, List, [], ◌∷◌, eqb, leb, length, get_or, set}
use Rattle.text.specs.Strings.{Strings, maximum_length, maximum_strings}

-- f i, f (i + 1), ..: n of them
unfoldable pub tabulate : {A : Type 0} → (ℕ → A) → ℕ → ℕ → List A
tabulate f i zero = []
tabulate f i (suc n) = f i ∷ tabulate f (suc i) n

-- how many cells a string has: its length, then its code units
abbrev pub row_size : ℕ
row_size = 33

abbrev pub table_size : ℕ
table_size = 8449

-- where the row of string n starts
abbrev pub row_at : ℕ → ℕ
row_at n = 1 + row_size * n

-- a length that no string has is read as the greatest
unfoldable pub length_at : List ℕ → ℕ → ℕ
length_at cells n = min (get_or cells (row_at n) 0) maximum_length

unfoldable pub text_at : List ℕ → ℕ → List ℕ
text_at cells n = tabulate (λ i. get_or cells i 0) (suc (row_at n)) (length_at cells n)

-- the strings that the cells hold
unfoldable pub strings_of : List ℕ → Strings
strings_of cells = tabulate (text_at cells) 0 (get_or cells 0 0)

-- the right length, and a count that the table can have
unfoldable pub is_table : List ℕ → Bool
is_table cells = eqb (length cells) table_size && leb (get_or cells 0 0) maximum_strings

-- the list with these elements from i on in place of its own
unfoldable pub overwrite : List ℕ → ℕ → List ℕ → List ℕ
overwrite cells i [] = cells
overwrite cells i (u ∷ us) = overwrite (set cells i u) (suc i) us

-- the cells once a string is added as number n
unfoldable pub added_to : List ℕ → List ℕ → ℕ → List ℕ
added_to cells units n = set (overwrite (set cells (row_at n) (length units)) (suc (row_at n)) units) 0 (suc n)
