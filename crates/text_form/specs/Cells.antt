-- Cells of a text line: bytes in lowercase hexadecimal, separated by one space. Assumes nothing.
use Rattle.std.specs.Prelude.{ℕ, suc, ◌+◌, ◌*◌, Bool, false, cond, List, [], ◌∷◌, ◌++◌, eqb, length, replicate, Option, None, Some}
use Rattle.record.specs.Characters.{space, bytes_in}

-- what stands between separators; `front` is what was read of the piece that has begun
unfoldable pub pieces : ℕ → List ℕ → List ℕ → List (List ℕ)
pieces separator front [] = front ∷ []
pieces separator front (b ∷ bytes) = cond (eqb b separator) (front ∷ pieces separator [] bytes) (pieces separator (front ++ (b ∷ [])) bytes)

-- how many bytes stand before the first separator
unfoldable pub until : ℕ → List ℕ → ℕ
until separator [] = 0
until separator (b ∷ bytes) = cond (eqb b separator) 0 (suc (until separator bytes))

abbrev pub cells_of : List ℕ → List (List ℕ)
cells_of line = pieces space [] line

abbrev pub with_unit : ℕ → Option (List ℕ) → Option (List ℕ)
with_unit unit None = None
with_unit unit (Some units) = Some (unit ∷ units)

-- the code units that bytes are, two for each, the high byte first
unfoldable pub units_of : List ℕ → Option (List ℕ)
units_of [] = Some []
units_of (a ∷ []) = None
units_of (a ∷ b ∷ bytes) = with_unit (256 * a + b) (units_of bytes)

abbrev pub units_in : Option (List ℕ) → Option (List ℕ)
units_in None = None
units_in (Some bytes) = units_of bytes

unfoldable pub is_dash : List ℕ → Bool
is_dash [] = false
is_dash (b ∷ []) = eqb b 45
is_dash (b ∷ c ∷ cell) = false

-- one byte or more
unfoldable pub some_bytes_in : List ℕ → Option (List ℕ)
some_bytes_in cell = cond (eqb (length cell) 0) None (bytes_in cell)

-- a part of `size` bytes; a dash is all zeros
unfoldable pub part_in : ℕ → List ℕ → Option (List ℕ)
part_in size cell = cond (is_dash cell) (Some (replicate size 0)) (cond (eqb (length cell) (2 * size)) (bytes_in cell) None)

-- an answer sheet, of any content; a dash is the sheet of no answers
unfoldable pub sheet_in : List ℕ → Option (List ℕ)
sheet_in cell = cond (is_dash cell) (Some (0 ∷ [])) (some_bytes_in cell)

-- a string's code units; a dash is the empty string
unfoldable pub text_in : List ℕ → Option (List ℕ)
text_in cell = cond (is_dash cell) (Some []) (units_in (some_bytes_in cell))
