-- A reader in lent memory: the store's words, the string table's cells, ten words of state and the bytes of the line that has begun. Assumes nothing.
use Rattle.std.specs.Prelude.{ℕ, suc, ◌≤◌, ◌≡◌, Bool, true, false, ◌&&◌, cond, List, [], ◌∷◌, eqb, leb, ltb, length, get_or, take, drop, Option, None, Some}
use Rattle.std.specs.Borrow.{Bor}
use Rattle.text.specs.Table.{table_size}
use Rattle.store.specs.Words.{store_size, world_of}
use Rattle.record.specs.Characters.{line_feed}
use Rattle.reporting.specs.Memory.{is_memory}
use Rattle.text_form.specs.Cells.{until}
use Rattle.text_form.specs.Lines.{maximum_line}
use Rattle.text_form.specs.Reader.{Phase, first, later, ended, Reader, reader, Read, read, is_ended, start, read_bytes, end_input}
use Rattle.text_line.specs.Lines.{row_room}
use Rattle.text_reader.specs.declared.Progress.{Progress}

-- words of state: the phase, the lines so far, the bytes of the line that has begun, then the seven columns
abbrev pub state_size : ℕ
state_size = 10

abbrev pub column_words : List ℕ → List ℕ
column_words state = drop 3 state

unfoldable pub phase_of : ℕ → List ℕ → Phase
phase_of phase columns = cond (eqb phase 0) first (cond (eqb phase 1) (later columns) ended)

-- a size past the greatest is a line that is too long
abbrev pub line_of : ℕ → List ℕ → Option (List ℕ)
line_of size line = cond (leb size maximum_line) (Some (take size line)) None

-- the bytes of a line that is lent, if there is one
abbrev pub bytes_in : Option (Bor (List ℕ)) → Option (List ℕ)
bytes_in None = None
bytes_in (Some line) = Some line.now

abbrev pub phase_in : List ℕ → Phase
phase_in state = phase_of (get_or state 0 0) (column_words state)

unfoldable pub reader_of : List ℕ → List ℕ → List ℕ → List ℕ → Reader
reader_of words cells state line = reader (phase_in state) (get_or state 1 0) (line_of (get_or state 2 0) line) (world_of words cells)

unfoldable pub are_below : ℕ → List ℕ → Bool
are_below n [] = true
are_below n (x ∷ xs) = ltb x n && are_below n xs

-- the greatest number that a word holds; one line less can be counted
abbrev pub maximum_count : ℕ
maximum_count = 18446744073709551615

-- ten words, each column one of seven, and another line can be counted
unfoldable pub is_state : List ℕ → Bool
is_state state = eqb (length state) state_size && (are_below 7 (column_words state) && ltb (get_or state 1 0) maximum_count)

unfoldable pub is_reader : List ℕ → List ℕ → List ℕ → List ℕ → Bool
is_reader words cells state line = is_memory words cells && (is_state state && eqb (length line) maximum_line)

-- what is taken of a piece: all up to and with its first line feed, and nothing once reading has ended
abbrev pub taken_of : Bool → List ℕ → ℕ
taken_of true piece = 0
taken_of false piece = cond (ltb (until line_feed piece) (length piece)) (suc (until line_feed piece)) (length piece)

-- the same as an answer and two words, for C
abbrev pub progress_of : Bool → List ℕ → Progress
progress_of accepted result = record { accepted = accepted; taken = get_or result 0 0; written = get_or result 1 0 }

-- What `start` ensures: memory of the right lengths becomes a reader that has read nothing, whatever its line's bytes; other memory is left
pub record Started (words cells state : List ℕ) (r : Bool) (words' cells' state' : List ℕ) : Type 0 where
  pub answers : r ≡ (eqb (length words) store_size && (eqb (length cells) table_size && eqb (length state) state_size))
  pub refused : r ≡ false → (words' ≡ words) × ((cells' ≡ cells) × (state' ≡ state))
  pub begins : r ≡ true → (line : List ℕ) → length line ≡ maximum_line → (reader_of words' cells' state' line ≡ start) × (is_reader words' cells' state' line ≡ true)

-- memory as it was
pub record Untouched (words cells state line rows words' cells' state' line' rows' : List ℕ) (p : Progress) : Type 0 where
  pub words_are : words' ≡ words
  pub cells_are : cells' ≡ cells
  pub state-is : state' ≡ state
  pub line-is : line' ≡ line
  pub rows_are : rows' ≡ rows
  pub progress : (p.taken ≡ 0) × (p.written ≡ 0)

-- what was read, with the rows that it gave; the bytes behind them stay, and the reader stays one as long as lines can be counted
pub record Reads (rows : List ℕ) (expected : Read) (words' cells' state' line' rows' : List ℕ) (written : ℕ) : Type 0 where
  pub reads : read (reader_of words' cells' state' line') (take written rows') ≡ expected
  pub rest : drop written rows' ≡ drop written rows
  pub fits : written ≤ length rows
  pub still : ltb (get_or state' 1 0) maximum_count ≡ true → is_reader words' cells' state' line' ≡ true

abbrev pub is_accepted : List ℕ → List ℕ → List ℕ → List ℕ → List ℕ → Bool
is_accepted words cells state line rows = is_reader words cells state line && leb row_room (length rows)

-- What `feed` ensures
pub record Fed (words cells state line piece rows : List ℕ) (p : Progress) (words' cells' state' line' rows' : List ℕ) : Type 0 where
  pub accepts : p.accepted ≡ is_accepted words cells state line rows
  pub refused : p.accepted ≡ false → Untouched words cells state line rows words' cells' state' line' rows' p
  pub takes : p.accepted ≡ true → p.taken ≡ taken_of (is_ended (phase_in state)) piece
  pub does : p.accepted ≡ true → Reads rows (read_bytes (reader_of words cells state line) (take p.taken piece)) words' cells' state' line' rows' p.written
  pub within : (p.taken ≤ length piece) × (p.written ≤ length rows)

-- What `end` ensures
pub record Ended (words cells state line rows : List ℕ) (p : Progress) (words' cells' state' rows' : List ℕ) : Type 0 where
  pub accepts : p.accepted ≡ is_accepted words cells state line rows
  pub refused : p.accepted ≡ false → Untouched words cells state line rows words' cells' state' line rows' p
  pub takes : p.taken ≡ 0
  pub does : p.accepted ≡ true → Reads rows (end_input (reader_of words cells state line)) words' cells' state' line rows' p.written
  pub within : p.written ≤ length rows
