-- One line of a text, done in lent memory. Assumes nothing.
use Rattle.std.specs.Prelude.{ℕ, ◌≤◌, ◌≡◌, true, List, length, Option}
use Rattle.std.proofs.lemmas.List.Edits.{sets}
use Rattle.store.specs.Words.{world_of}
use Rattle.steps.specs.Run.{Call}
use Rattle.reporting.specs.Memory.{is_memory}
use Rattle.text_form.specs.Rows.{row}
use Rattle.text_form.specs.Reader.{line_effect}

-- room for the heading and the longest row
abbrev pub row_room : ℕ
row_room = 4800

-- one line done: its row from the start on, and what the memory holds then
pub record LineDone (words cells rows : List ℕ) (number : ℕ) (call : Option Call) (words' cells' rows' : List ℕ) (size : ℕ) : Type 0 where
  pub shows : rows' ≡ sets rows 0 (row number (line_effect (world_of words cells) call).response)
  pub sized : size ≡ length (row number (line_effect (world_of words cells) call).response)
  pub fits : size ≤ length rows
  pub leaves : world_of words' cells' ≡ (line_effect (world_of words cells) call).world
  pub memory : is_memory words' cells' ≡ true
