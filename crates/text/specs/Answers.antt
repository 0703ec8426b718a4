-- What the functions over the table's cells answer. Assumes nothing.
use Rattle.std.specs.Prelude.{ℕ, cond, List, [], eqb, ltb, length, get_or, set, Option, None, Some, Result, Ok, Err}
use Rattle.text.specs.Strings.{Strings, Entry, refused, entered, enter}
use Rattle.text.specs.Table.{table_size, strings_of, is_table, added_to}
use Rattle.text.specs.declared.EntryError.{EntryError}
use Rattle.text.specs.declared.EntryError.TheVariants.{Malformed, TooLong, Full}

-- the strings that can be read: malformed cells hold none
unfoldable pub read_table : List ℕ → Strings
read_table cells = cond (is_table cells) (strings_of cells) []

unfoldable pub count_answer : List ℕ → Option ℕ
count_answer cells = cond (is_table cells) (Some (length (strings_of cells))) None

-- the cells of an empty table: the count becomes 0, and the others stay
unfoldable pub emptied : List ℕ → List ℕ
emptied cells = cond (eqb (length cells) table_size) (set cells 0 0) cells

abbrev pub refusal_of : EntryError → ℕ
refusal_of Malformed = 1
refusal_of TooLong = 3
refusal_of Full = 7

-- an answer and the strings that are then in the table, as what entering gives
abbrev pub entry_of : Result ℕ EntryError → Strings → Entry
entry_of (Err e) strings = refused (refusal_of e)
entry_of (Ok n) strings = entered n strings

-- entering a string into cells: malformed cells are refused by 1
unfoldable pub enter_cells : List ℕ → List ℕ → Entry
enter_cells cells units = cond (is_table cells) (enter (strings_of cells) units) (refused 1)

-- the cells change only where the number is a new one
abbrev pub cells_after : List ℕ → List ℕ → Entry → List ℕ
cells_after cells units (refused n) = cells
cells_after cells units (entered n strings) = cond (ltb n (get_or cells 0 0)) cells (added_to cells units n)
