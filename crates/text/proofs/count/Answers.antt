use native.Mathlib.Omega.{arith}
use mathlib.Core.Path.{sym, ◌∙◌}
use Rattle.text.specs.Answers.{count_answer}
use Rattle.text.proofs.TableLaws.{table-size, length-strings}
use Rattle.text.proofs.count.Goals as goal

pub bounds-cells-0 : goal.bounds-cells-0
bounds-cells-0 c = omega (arith, table-size _ (sym c.is_table.ensures ∙ c.if-is_table.true))

pub returns-then-is_table : goal.returns-then-is_table
unfolding count_answer
returns-then-is_table c = rw (sym c.is_table.ensures ∙ c.if-is_table.true, length-strings, c.from.ensures)

pub returns-else-is_table : goal.returns-else-is_table
unfolding count_answer
returns-else-is_table c = rw (sym c.is_table.ensures ∙ c.if-is_table.false)
