use native.Mathlib.Omega.{arith}
use mathlib.Core.Path.{sym, ◌∙◌}
use Rattle.text.proofs.TableLaws.{table-size, table-count, text-read, text-none, text-malformed}
use Rattle.text.proofs.text_of.Goals as goal
use Rattle.text.proofs.text_of.Goals.{else-is_table-via-then-is_table+else-n-from, else-is_table-via-else-is_table}

pub bounds-cells-0 : goal.bounds-cells-0
bounds-cells-0 c = omega (arith, table-size _ (sym c.is_table.ensures ∙ c.if-is_table.true))

pub text_at-requires : goal.text_at-requires
text_at-requires c = let t = sym c.is_table.ensures ∙ c.if-is_table.true in (table-size _ t, omega (arith, table-count _ t))

pub returns-then-n-from : goal.returns-then-n-from
returns-then-n-from c = c.text_at.ensures ∙ sym (text-read _ _ (sym c.is_table.ensures ∙ c.if-is_table.true) (omega arith))

pub returns : goal.returns
returns c = elim c.else-is_table.branch [
  | else-is_table-via-then-is_table+else-n-from w ↦ sym (text-none _ _ (sym c.is_table.ensures ∙ w.if-is_table.true) (omega arith))
  | else-is_table-via-else-is_table w ↦ sym (text-malformed _ _ (sym c.is_table.ensures ∙ w.if-is_table.false))
]
