use mathlib.Core.Path.{◌≡◌}
use lib.ListN.{drop}
use Rattle.text_reader.specs.Memory.{are_below}
use Rattle.text_reader.proofs.are_columns.Given as goal

-- the columns from the index on are still to be looked at
abbrev pub invariant-loop-column : goal.invariant-loop-column
invariant-loop-column l = are_below 7 l.columns ≡ are_below 7 (drop l.column-index l.columns)
