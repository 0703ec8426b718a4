-- Lines of a text: the first has the names of the columns, each later one is a call. Assumes nothing.
use Rattle.std.specs.Prelude.{ℕ, ◌&&◌, cond, List, [], ◌∷◌, ◌++◌, map, eqb, leb, length, get_or, replicate, Option, None, Some}
use Rattle.text.specs.Strings.{number_of}
use Rattle.record.specs.Bytes.{byte_at, are_zero}
use Rattle.steps.specs.Run.{Call, step, enter}
use Rattle.text_form.specs.Cells.{cells_of, part_in, sheet_in, text_in}

abbrev pub maximum_line : ℕ
maximum_line = 16384

-- step, object, key, value, receiver, descriptor, sheet
abbrev pub names : List (List ℕ)
names =
    (115 ∷ 116 ∷ 101 ∷ 112 ∷ [])
    ∷ (111 ∷ 98 ∷ 106 ∷ 101 ∷ 99 ∷ 116 ∷ [])
    ∷ (107 ∷ 101 ∷ 121 ∷ [])
    ∷ (118 ∷ 97 ∷ 108 ∷ 117 ∷ 101 ∷ [])
    ∷ (114 ∷ 101 ∷ 99 ∷ 101 ∷ 105 ∷ 118 ∷ 101 ∷ 114 ∷ [])
    ∷ (100 ∷ 101 ∷ 115 ∷ 99 ∷ 114 ∷ 105 ∷ 112 ∷ 116 ∷ 111 ∷ 114 ∷ [])
    ∷ (115 ∷ 104 ∷ 101 ∷ 101 ∷ 116 ∷ [])
    ∷ []

abbrev pub with_column : Option ℕ → Option (List ℕ) → Option (List ℕ)
with_column None columns = None
with_column (Some c) None = None
with_column (Some c) (Some columns) = Some (c ∷ columns)

unfoldable pub all_of : List (Option ℕ) → Option (List ℕ)
all_of [] = Some []
all_of (c ∷ columns) = with_column c (all_of columns)

-- the column of each name, in the order above. Seven names in seven cells: each stands there once.
unfoldable pub columns_of : List ℕ → Option (List ℕ)
columns_of line = cond (leb (length line) maximum_line && eqb (length (cells_of line)) 7) (all_of (map (number_of (cells_of line)) names)) None

-- the cell under the name of this number
abbrev pub cell_under : List ℕ → List (List ℕ) → ℕ → List ℕ
cell_under columns cells name = get_or cells (get_or columns name 0) []

abbrev pub joined : Option (List ℕ) → Option (List ℕ) → Option (List ℕ)
joined None rest = None
joined (Some bytes) None = None
joined (Some bytes) (Some rest) = Some (bytes ++ rest)

-- the 58 bytes of the step, in the record's order
unfoldable pub record_in : List ℕ → List (List ℕ) → Option (List ℕ)
record_in columns cells =
    joined (part_in 1 (cell_under columns cells 0))
    (joined (part_in 1 (cell_under columns cells 1))
    (joined (part_in 9 (cell_under columns cells 2))
    (joined (part_in 9 (cell_under columns cells 3))
    (joined (part_in 9 (cell_under columns cells 4))
    (part_in 29 (cell_under columns cells 5))))))

-- room for 256 keys
abbrev pub key_room : List ℕ
key_room = replicate 2304 0

abbrev pub step_with : List ℕ → Option (List ℕ) → Option Call
step_with bytes None = None
step_with bytes (Some sheet) = Some (step bytes sheet key_room)

-- the other cells are zero; where they are not, it is a step of code 15, which is refused as 1
abbrev pub entry_of : List ℕ → Option (List ℕ) → Option Call
entry_of bytes None = None
entry_of bytes (Some units) = Some (cond (are_zero bytes 1 57) (enter units) (step bytes [] key_room))

-- step 15 enters a string
abbrev pub call_with : List ℕ → Option (List ℕ) → Option Call
call_with cell None = None
call_with cell (Some bytes) = cond (eqb (byte_at bytes 0) 15) (entry_of bytes (text_in cell)) (step_with bytes (sheet_in cell))

-- the call that a line is; none where it breaks the form: refusal 12
unfoldable pub call_in : List ℕ → List ℕ → Option Call
call_in columns line =
    cond (leb (length line) maximum_line && eqb (length (cells_of line)) 7)
    (call_with (cell_under columns (cells_of line) 6) (record_in columns (cells_of line)))
    None
