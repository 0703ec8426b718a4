use native.Mathlib.Omega.{arith}
use borrow.Author.Count.{below_more}
use mathlib.Core.Path.{sym, ◌∙◌}
use Rattle.text.proofs.TextLaws.{same-as}
use Rattle.text.proofs.TableLaws.{table-size, table-count, find-malformed, found-at, found-nothing}
use Rattle.text.proofs.entry.find.Goals as goal

pub bounds-cells-0 : goal.bounds-cells-0
bounds-cells-0 c = omega (arith, table-size _ (sym c.is_table.ensures ∙ c.if-is_table.true))

pub text_at-requires : goal.text_at-requires
text_at-requires c = let t = sym c.is_table.ensures ∙ c.if-is_table.true in (table-size _ t, omega (arith, table-count _ t))

pub returns-then-eq : goal.returns-then-eq
returns-then-eq c = found-at _ _ (sym c.is_table.ensures ∙ c.if-is_table.true) _ (omega arith) (same-as _ _ _ c.text_at.ensures c.eq.ensures c.if-eq.true) c.loop-n.invariant

pub loop-n-preserved : goal.loop-n-preserved
loop-n-preserved c = below_more _ _ c.loop-n.invariant (same-as _ _ _ c.text_at.ensures c.eq.ensures c.if-eq.false)

pub returns-after-loop-n : goal.returns-after-loop-n
returns-after-loop-n c = found-nothing _ _ (sym c.is_table.ensures ∙ c.if-is_table.true) (λ k h. c.loop-n.invariant k (omega arith))

pub returns-else-is_table : goal.returns-else-is_table
returns-else-is_table c = find-malformed _ _ (sym c.is_table.ensures ∙ c.if-is_table.false)
