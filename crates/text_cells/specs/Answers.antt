-- What the functions over a line's cells answer. Assumes nothing.
use Rattle.std.specs.Prelude.{ℕ, suc, ◌-◌, ◌<◌, ◌≤◌, ◌≡◌, Bool, true, false, List, [], length, get_or, take, drop, Option, None, Some}
use Rattle.text_form.specs.Cells.{cells_of}

-- what was written counts where the answer is true
abbrev pub told : Bool → List ℕ → Option (List ℕ)
told true written = Some written
told false written = None

-- the first n of the bytes that were written
abbrev pub decoded : Option ℕ → List ℕ → Option (List ℕ)
decoded None written = None
decoded (Some n) written = Some (take n written)

abbrev pub Within : Option ℕ → ℕ → Type 0
Within None room = Unit {0}
Within (Some n) room = n ≤ room

-- where a cell starts and the next one would
abbrev pub cell_at : List ℕ → ℕ → ℕ → List ℕ
cell_at line from next = take (next - suc from) (drop from line)

-- eight places: each of the seven cells stands between two of them, with a separator behind it
pub record Located (line starts : List ℕ) : Type 0 where
  pub eight : length starts ≡ 8
  pub ordered : (i : ℕ) → i < 7 → get_or starts i 0 < get_or starts (suc i) 0
  pub inside : (i : ℕ) → i < 7 → get_or starts (suc i) 0 ≤ suc (length line)
  pub cells : (i : ℕ) → i < 7 → cell_at line (get_or starts i 0) (get_or starts (suc i) 0) ≡ get_or (cells_of line) i []

-- seven columns, each of a cell
pub record AreColumns (columns : List ℕ) : Type 0 where
  pub seven : length columns ≡ 7
  pub below : (i : ℕ) → i < 7 → get_or columns i 0 < 7
