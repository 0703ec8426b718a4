-- One line of a text, done in what was lent. Assumes nothing.
use Rattle.std.specs.Prelude.{ℕ, ◌≡◌, Option}
use Rattle.steps.specs.Run.{Call}
use Rattle.text_line.specs.Lines.{LineDone}
use Rattle.text_line.specs.declared.Memory.{Memory}

-- one line done, written through the references that were lent
pub record Performed (before : Memory) (number : ℕ) (call : Option Call) (after : Memory) (size : ℕ) : Type 0 where
  pub same_words : after.words.ghost_name ≡ before.words.ghost_name
  pub same_strings : after.strings.ghost_name ≡ before.strings.ghost_name
  pub same_rows : after.rows.ghost_name ≡ before.rows.ghost_name
  pub done : LineDone before.words.now before.strings.now before.rows.now number call after.words.now after.strings.now after.rows.now size
