use mathlib.Core.Path.{◌≡◌}
use mathlib.Core.List.{map}
use Rattle.text.specs.Strings.{number_of}
use Rattle.text_form.specs.Cells.{cells_of}
use Rattle.text_form.specs.Lines.{names, all_of}
use Rattle.text_cells.proofs.NameLaws.{columns_from}
use Rattle.text_cells.proofs.names.put_columns.Given as goal

abbrev pub invariant-loop-name : goal.invariant-loop-name
invariant-loop-name l = all_of (map (number_of (cells_of l.line)) names) ≡ columns_from (number_of (cells_of l.line)) names l.columns l.name
