use native.Mathlib.Omega.{arith}
use mathlib.Core.Path.{refl, sym, ◌∙◌, ap}
use Rattle.store.specs.Words.{world_of}
use Rattle.step_records.proofs.PassedLaws.{step-length, sheet-there, sheet-formed, other-code}
use Rattle.reporting.proofs.ContractLaws.{store_is, table_is}
use Rattle.reporting.proofs.EndLaws.{finished-words, kept-words}
use Rattle.step.proofs.StepLaws.{performable, lists-fit, turns, run-shown, run-listed, run-set, run-tested, run-performed}
use Rattle.performing.specs.Results.{is_reading}
use Rattle.step.proofs.run.Goals as goal

pub bounds-bytes-0 : goal.bounds-bytes-0
bounds-bytes-0 c = omega (arith, step-length (world_of c.args.words.now c.args.strings.now) c.args.bytes.now c.args.sheet.now c.requires.1)

pub bounds-bytes-1 : goal.bounds-bytes-1
bounds-bytes-1 c = omega (arith, step-length (world_of c.args.words.now c.args.strings.now) c.args.bytes.now c.args.sheet.now c.requires.1)

pub list-requires : goal.list-requires
list-requires c = (table_is c.args.words.now c.args.strings.now c.requires.0, lists-fit c.args.words.now c.args.strings.now c.args.bytes.now c.args.sheet.now c.requires.0 c.requires.1)

pub returns-then-code-eq14 : goal.returns-then-code-eq14
returns-then-code-eq14 c = record { output_after = run-listed c.args.words.now c.args.strings.now c.args.bytes.now c.args.sheet.now c.args.output.now (sheet-formed (world_of c.args.words.now c.args.strings.now) c.args.bytes.now c.args.sheet.now c.requires.1) _ _ c.from-o.ensures c.if-code-eq14.true c.list.ensures; words_after = kept-words c.args.words.now _ (store_is c.args.words.now c.args.strings.now c.requires.0) refl _ c.list.result.outcome }

pub level_at-requires : goal.level_at-requires
level_at-requires c = omega (arith, step-length (world_of c.args.words.now c.args.strings.now) c.args.bytes.now c.args.sheet.now c.requires.1)

pub set_level-requires : goal.set_level-requires
set_level-requires c = (c.requires.0, lists-fit c.args.words.now c.args.strings.now c.args.bytes.now c.args.sheet.now c.requires.0 c.requires.1)

pub returns-then-code-eq18 : goal.returns-then-code-eq18
returns-then-code-eq18 c = record { output_after = run-set c.args.words.now c.args.strings.now c.args.bytes.now c.args.sheet.now c.args.output.now (sheet-formed (world_of c.args.words.now c.args.strings.now) c.args.bytes.now c.args.sheet.now c.requires.1) _ _ _ c.from-o.ensures c.level_at.ensures c.if-code-eq18.true (c.set_level.ensures.by_index c.args.output.now); words_after = rw (turns c.args.words.now c.args.strings.now c.args.bytes.now c.args.sheet.now c.args.output.now c.if-code-eq18.true) c.set_level.ensures.words_after }

pub level_at-level-requires : goal.level_at-level-requires
level_at-level-requires c = omega (arith, step-length (world_of c.args.words.now c.args.strings.now) c.args.bytes.now c.args.sheet.now c.requires.1)

pub test_level-requires : goal.test_level-requires
test_level-requires c = (table_is c.args.words.now c.args.strings.now c.requires.0, lists-fit c.args.words.now c.args.strings.now c.args.bytes.now c.args.sheet.now c.requires.0 c.requires.1)

pub returns-then-code-eq19 : goal.returns-then-code-eq19
returns-then-code-eq19 c = record { output_after = run-tested c.args.words.now c.args.strings.now c.args.bytes.now c.args.sheet.now c.args.output.now (sheet-formed (world_of c.args.words.now c.args.strings.now) c.args.bytes.now c.args.sheet.now c.requires.1) _ _ _ c.from-o.ensures c.level_at-level.ensures c.if-code-eq19.true (c.test_level.ensures c.args.output.now); words_after = kept-words c.args.words.now _ (store_is c.args.words.now c.args.strings.now c.requires.0) refl _ c.test_level.result.outcome }

pub start-progress-requires : goal.start-progress-requires
start-progress-requires c = sheet-there (world_of c.args.words.now c.args.strings.now) c.args.bytes.now c.args.sheet.now c.requires.1

pub perform_reading-requires : goal.perform_reading-requires
perform_reading-requires c = let e = c.run_over-run.ensures in rw (e.words, e.allowance, e.sheet) (performable c.args.words.now c.args.strings.now c.args.bytes.now c.args.sheet.now c.requires.0 c.requires.1, (sheet-formed (world_of c.args.words.now c.args.strings.now) c.args.bytes.now c.args.sheet.now c.requires.1, ap is_reading (sym c.from.ensures) ∙ sym c.is_reading.ensures ∙ c.if-is_reading.true))

pub returns-then-is_reading : goal.returns-then-is_reading
returns-then-is_reading c = record { output_after = run-shown c.args.words.now c.args.strings.now c.args.bytes.now c.args.sheet.now c.args.output.now (sheet-formed (world_of c.args.words.now c.args.strings.now) c.args.bytes.now c.args.sheet.now c.requires.1) _ _ c.start-progress.ensures (let e = c.run_over-run.ensures in rw (e.words, e.strings, e.allowance, e.sheet) at (c.perform_reading.ensures c.args.output.now)); words_after = kept-words c.args.words.now _ (store_is c.args.words.now c.args.strings.now c.requires.0) refl _ c.perform_reading.result.outcome }

pub perform-performed-requires : goal.perform-performed-requires
perform-performed-requires c = let e = c.run_over-run.ensures in rw (e.words, e.allowance) (performable c.args.words.now c.args.strings.now c.args.bytes.now c.args.sheet.now c.requires.0 c.requires.1, (ap is_reading (sym c.from.ensures) ∙ sym c.is_reading.ensures ∙ c.if-is_reading.false, other-code (world_of c.args.words.now c.args.strings.now) c.args.bytes.now c.args.sheet.now c.requires.1 c.if-code-eq14.false c.if-code-eq18.false c.if-code-eq19.false))

pub finish-requires : goal.finish-requires
finish-requires c = (sheet-formed (world_of c.args.words.now c.args.strings.now) c.args.bytes.now c.args.sheet.now c.requires.1, ((store_is c.args.words.now c.args.strings.now c.requires.0), rw c.run_over-run.ensures.words at c.perform-performed.ensures.taken))

pub returns : goal.returns
returns c = let e = c.run_over-run.ensures in record { output_after = run-performed c.args.words.now c.args.strings.now c.args.bytes.now c.args.sheet.now c.args.output.now (sheet-formed (world_of c.args.words.now c.args.strings.now) c.args.bytes.now c.args.sheet.now c.requires.1) _ _ c.perform-performed.result _ _ c.start-progress.ensures (rw (e.words, e.strings, e.allowance, e.sheet) at c.perform-performed.ensures.result_value) (rw e.words at c.perform-performed.ensures.taken) c.finish.ensures.finished c.finish.ensures.value; words_after = rw c.finish.ensures.value (finished-words c.args.words.now c.args.sheet.now (store_is c.args.words.now c.args.strings.now c.requires.0) _ _ c.perform-performed.result _ c.finish.ensures.finished) }
