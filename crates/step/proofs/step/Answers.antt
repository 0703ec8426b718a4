use mathlib.Core.Path.{refl, sym, ◌∙◌}
use Rattle.reporting.proofs.ContractLaws.{store_is, table_is}
use Rattle.step.proofs.StepLaws.{step-refused, step-ran, step-unread}
use Rattle.step.proofs.step.Goals as goal

pub record_refusal-requires : goal.record_refusal-requires
record_refusal-requires c = table_is c.args.words.now c.args.strings.now (sym c.is_memory.ensures ∙ c.if-not-is_memory.false)

pub invariant_of-record_refusal : goal.invariant_of-record_refusal
invariant_of-record_refusal c = record { valid = store_is c.args.words.now c.args.strings.now (sym c.is_memory.ensures ∙ c.if-not-is_memory.false) }

pub run-requires : goal.run-requires
run-requires c = (sym c.is_memory.ensures ∙ c.if-not-is_memory.false, (sym c.record_refusal.ensures ∙ c.in-None.is))

pub returns-in-Some : goal.returns-in-Some
returns-in-Some c = record { shows = step-refused c.args.words.now c.args.strings.now c.args.bytes.now c.args.sheet.now c.args.output.now _ _ (sym c.is_memory.ensures ∙ c.if-not-is_memory.false) (sym c.record_refusal.ensures ∙ c.in-Some.is) c.refused-in-Some.ensures; writes = rw c.refused-in-Some.ensures refl }

pub returns-in-None : goal.returns-in-None
returns-in-None c = record { shows = step-ran c.args.words.now c.args.strings.now c.args.bytes.now c.args.sheet.now c.args.output.now _ (sym c.is_memory.ensures ∙ c.if-not-is_memory.false) (sym c.record_refusal.ensures ∙ c.in-None.is) c.run.ensures.output_after; writes = c.run.ensures.words_after }

pub returns-then-not-is_memory : goal.returns-then-not-is_memory
returns-then-not-is_memory c = record { shows = step-unread c.args.words.now c.args.strings.now c.args.bytes.now c.args.sheet.now c.args.output.now _ (sym c.is_memory.ensures ∙ c.if-not-is_memory.true) c.refused.ensures; writes = rw c.refused.ensures refl }
