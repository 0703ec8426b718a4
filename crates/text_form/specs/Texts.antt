-- What is promised of every text: its names, its rows, demand 1 of each line and demand 3. Assumes nothing.
use Rattle.std.specs.Prelude.{ℕ, suc, ◌<◌, ◌≡◌, ◌↔◌, List, [], ◌∷◌, ◌++◌, length, get_or, take, drop, Option, None, Some}
use Rattle.store.specs.Store.{World, empty}
use Rattle.steps.specs.Response.{refused, refusal}
use Rattle.steps.specs.Step.{refusing}
use Rattle.steps.specs.Run.{Call, step, enter, effect, run}
use Rattle.demands.specs.Refusals.{StepDecided, EntryDecided}
use Rattle.demands.specs.Lasting.{Lasting}
use Rattle.demands.specs.Further.{Further}
use Rattle.text_form.specs.Cells.{cells_of}
use Rattle.text_form.specs.Lines.{names, columns_of, call_in}
use Rattle.text_form.specs.Rows.{heading, row}
use Rattle.text_form.specs.Text.{lines_of, calls_of, rows, lines_under, run_text}
use Rattle.text_form.specs.Reader.{line_effect}

-- seven columns, each of the cell with its name, no two of one
pub record NamesOnce (line columns : List ℕ) : Type 0 where
  pub cells : length (cells_of line) ≡ 7
  pub seven : length columns ≡ 7
  pub below : (i : ℕ) → i < 7 → get_or columns i 0 < 7
  pub named : (i : ℕ) → i < 7 → get_or (cells_of line) (get_or columns i 0) [] ≡ get_or names i []
  pub different : (i j : ℕ) → i < 7 → j < 7 → get_or columns i 0 ≡ get_or columns j 0 → i ≡ j

-- the world that lines leave
unfoldable pub world_after : World → List (Option Call) → World
world_after ω [] = ω
world_after ω (o ∷ lines) = world_after (line_effect ω o).world lines

-- a row for each line from number n on, each in the world that the lines before it left
unfoldable pub line_rows : ℕ → World → List (Option Call) → List ℕ
line_rows n ω [] = []
line_rows n ω (o ∷ lines) = row n (line_effect ω o).response ++ line_rows (suc n) (line_effect ω o).world lines

-- demand 1 of a line, in the world that it finds
pub record LineDecided (ω : World) (columns line : List ℕ) : Type 0 where
  -- refusal 12 exactly if the line breaks the form
  pub refuses : ((line_effect ω (call_in columns line)).response.ending ≡ refused 12) ↔ (call_in columns line ≡ None)
  -- it reports zeros, and leaves store and strings
  pub untouched : call_in columns line ≡ None → line_effect ω (call_in columns line) ≡ refusing 12 ω []
  -- any other line is its call, of which demand 1 holds
  pub called : (c : Call) → call_in columns line ≡ Some c → line_effect ω (call_in columns line) ≡ effect ω c
  pub stepped : (bytes sheet output : List ℕ) → call_in columns line ≡ Some (step bytes sheet output) → StepDecided ω bytes sheet output
  pub entered : (units : List ℕ) → call_in columns line ≡ Some (enter units) → EntryDecided ω units

-- the lines after the names, and the output
pub record LinesKept (columns : List ℕ) (lines : List (List ℕ)) (output : List ℕ) : Type 0 where
  -- a row for each line
  pub each : output ≡ heading ++ line_rows 1 empty (lines_under columns lines)
  -- the calls are a list of calls, with one event for each, and the rows are theirs
  pub told : output ≡ heading ++ rows 1 (lines_under columns lines) (run (calls_of (lines_under columns lines)))
  pub events : length (run (calls_of (lines_under columns lines))) ≡ length (calls_of (lines_under columns lines))
  -- demand 1 of each line
  pub decided : (i : ℕ) → i < length lines → LineDecided (world_after empty (take i (lines_under columns lines))) columns (get_or lines i [])
  -- demand 3 of all
  pub lasting : Lasting (run (calls_of (lines_under columns lines)))
  pub further : Further (run (calls_of (lines_under columns lines)))

-- what is promised of a text
pub record TextKept (input : List ℕ) : Type 0 where
  -- a first line that is not the names: one row, which says so, and nothing is read behind it
  pub unnamed : columns_of (get_or (lines_of input) 0 []) ≡ None → run_text input ≡ heading ++ row 0 (refusal 12)
  pub once : (columns : List ℕ) → columns_of (get_or (lines_of input) 0 []) ≡ Some columns → NamesOnce (get_or (lines_of input) 0 []) columns
  pub kept : (columns : List ℕ) → columns_of (get_or (lines_of input) 0 []) ≡ Some columns → LinesKept columns (drop 1 (lines_of input)) (run_text input)
