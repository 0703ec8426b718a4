use native.Mathlib.Omega.{arith}
use mathlib.Core.Path.{refl}
use Rattle.reporting.proofs.ContractLaws.{entry-memory}
use Rattle.text_line.proofs.LineLaws.{as_call, zeros-entered, others-stepped, entry-held, entry_done}
use borrow.Author.Rules.{rules}
use Rattle.text_line.proofs.Memory.perform_entry.Goals as goal

pub put_row-requires : goal.put_row-requires
put_row-requires c = (search rules, entry-held _ _ c.args.self.now.memory _ _ _ c.enter_string-report.ensures)

pub returns-then-are_zero_from : goal.returns-then-are_zero_from
returns-then-are_zero_from c = as_call (zeros-entered _ _ _ c.are_zero_from.ensures c.if-are_zero_from.true) (record { same_words = refl; same_strings = refl; same_rows = refl; done = entry_done _ _ c.args.self.now.memory _ _ _ c.enter_string-report.ensures _ _ _ _ c.put_row.ensures.rows_after (omega (arith, c.put_row.ensures.upper_bound, c.args.self.now.room)) })

pub returns : goal.returns
returns c = as_call (others-stepped _ _ _ c.are_zero_from.ensures c.if-are_zero_from.false) c.perform_step.ensures

pub invariant_of-self : goal.invariant_of-self
invariant_of-self c = record { memory = entry-memory _ _ c.args.self.now.memory c.enter_string-report.ensures; room = c.args.self.now.room }
