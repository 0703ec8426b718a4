-- A row for each line: one event for each call, and lines after one another. Assumes nothing.
use Rattle.std.specs.Prelude.{Option, None, Some}
use Prim.Native.Nat.{ℕ, suc}
use mathlib.Core.Path.{◌≡◌, refl, ap}
use mathlib.Core.List.{List, [], ◌∷◌, ◌++◌}
use lib.ListN.{length}
use Rattle.store.specs.Store.{World, empty}
use Rattle.steps.specs.Run.{Call, effect, run_from, run}
use Rattle.text_form.specs.Rows.{row}
use Rattle.text_form.specs.Text.{calls_of, rows}
use Rattle.text_form.specs.Reader.{line_effect}

run_length : (ω : World) (calls : List Call) → length (run_from ω calls) ≡ length calls
unfolding run_from
run_length ω [] = refl
run_length ω (c ∷ calls) = ap suc (run_length (effect ω c).world calls)

pub one-event-each : (calls : List Call) → length (run calls) ≡ length calls
unfolding run
one-event-each calls = run_length empty calls

-- the rows of lines from number n on, from this world
abbrev pub rows_from : ℕ → World → List (Option Call) → List ℕ
rows_from n ω lines = rows n lines (run_from ω (calls_of lines))

pub rows-turn : (n : ℕ) (ω : World) (o : Option Call) (lines : List (Option Call))
    → rows_from n ω (o ∷ lines) ≡ row n (line_effect ω o).response ++ rows_from (suc n) (line_effect ω o).world lines
unfolding rows calls_of run_from
rows-turn n ω None lines = refl
rows-turn n ω (Some c) lines = refl
