use native.Mathlib.Omega.{arith}
use mathlib.Core.Path.{refl}
use Rattle.text_form.specs.Lines.{key_room}
use Rattle.reporting.proofs.ContractLaws.{step-memory}
use Rattle.text_line.proofs.LineLaws.{key-room, step-held, step-done}
use borrow.Author.Rules.{rules}
use Rattle.text_line.proofs.Memory.perform_step.Goals as goal

pub put_row-requires : goal.put_row-requires
put_row-requires c = (search rules, step-held _ _ c.args.self.now.memory _ _ key_room key-room _ _ _ c.step-report.ensures)

pub returns : goal.returns
returns c = record { same_words = refl; same_strings = refl; same_rows = refl; done = step-done _ _ c.args.self.now.memory _ _ key_room key-room _ _ _ c.step-report.ensures _ _ _ _ c.put_row.ensures.rows_after (omega (arith, c.put_row.ensures.upper_bound, c.args.self.now.room)) }

pub invariant_of-self : goal.invariant_of-self
invariant_of-self c = record { memory = step-memory _ _ c.args.self.now.memory c.step-report.ensures; room = c.args.self.now.room }
