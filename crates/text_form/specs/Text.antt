-- A whole text: its rows are those of a list of calls, with refusal 12 for each line that is none. Assumes nothing.
use Rattle.std.specs.Prelude.{ℕ, suc, List, [], ◌∷◌, ◌++◌, map, Option, None, Some}
use Rattle.record.specs.Characters.{line_feed}
use Rattle.steps.specs.Response.{refusal}
use Rattle.steps.specs.Run.{Call, Event, run}
use Rattle.text_form.specs.Cells.{pieces}
use Rattle.text_form.specs.Lines.{columns_of, call_in}
use Rattle.text_form.specs.Rows.{heading, row}

-- what stands after the last line feed is a line, unless it is empty
unfoldable pub without_empty_last : List (List ℕ) → List (List ℕ)
without_empty_last [] = []
without_empty_last ([] ∷ []) = []
without_empty_last ((b ∷ line) ∷ []) = (b ∷ line) ∷ []
without_empty_last (line ∷ next ∷ lines) = line ∷ without_empty_last (next ∷ lines)

abbrev pub lines_of : List ℕ → List (List ℕ)
lines_of input = without_empty_last (pieces line_feed [] input)

-- the calls among the lines
unfoldable pub calls_of : List (Option Call) → List Call
calls_of [] = []
calls_of (None ∷ lines) = calls_of lines
calls_of (Some c ∷ lines) = c ∷ calls_of lines

-- the rows of lines from number n on, whose calls were these events; there is one for each call
unfoldable pub rows : ℕ → List (Option Call) → List Event → List ℕ
rows n [] events = []
rows n (None ∷ lines) events = row n (refusal 12) ++ rows (suc n) lines events
rows n (Some c ∷ lines) [] = []
rows n (Some c ∷ lines) (e ∷ events) = row n e.response ++ rows (suc n) lines events

abbrev pub lines_under : List ℕ → List (List ℕ) → List (Option Call)
lines_under columns lines = map (call_in columns) lines

abbrev pub rows_under : Option (List ℕ) → List (List ℕ) → List ℕ
rows_under None lines = row 0 (refusal 12)
rows_under (Some columns) lines = rows 1 (lines_under columns lines) (run (calls_of (lines_under columns lines)))

abbrev pub rows_of : List (List ℕ) → List ℕ
rows_of [] = row 0 (refusal 12)
rows_of (first ∷ lines) = rows_under (columns_of first) lines

-- the whole output of a whole input, from nothing made or entered
unfoldable pub run_text : List ℕ → List ℕ
run_text input = heading ++ rows_of (lines_of input)
