use mathlib.Core.Path.{sym, ◌∙◌}
use Rattle.store.proofs.WordLaws.{sized}
use Rattle.sheet.proofs.FromLaws.{sheet-from}
use Rattle.calls.specs.Outs.{context}
use Rattle.integrity.specs.Levels.{integrity_level}
use Rattle.reporting.proofs.SheetLaws.{sheet_there}
use Rattle.reporting.proofs.ContractLaws.{store_is}
use Rattle.reporting.proofs.EndLaws.{turns-words, turns-left}
use Rattle.performing.proofs.LevelLaws.{level_shown, refused_left, not_refused}
use borrow.Enum.Refused.{opened}
use Rattle.performing.proofs.levels.set_level.Goals as goal

pub copy_words-requires : goal.copy_words-requires
copy_words-requires c = sym (sized _ (store_is c.args.words.now c.args.strings.now c.requires.0)).size

pub start-progress-requires : goal.start-progress-requires
start-progress-requires c = sheet_there _ c.requires.1.0

pub set_integrity_level-done-requires-clause-fit : goal.set_integrity_level-done-requires-clause-fit
set_integrity_level-done-requires-clause-fit c = rw (c.start-progress.ensures, sheet-from _ c.requires.1.0) c.requires.1.1

pub returns-in-Refused-clause-by_index : goal.returns-in-Refused-clause-by_index
returns-in-Refused-clause-by_index c = level_shown c.args.words.now c.args.strings.now c.args.sheet.now (context c.args.words.now c.args.strings.now 256) c.args.o (integrity_level c.args.level) c.start-progress.result c.start-progress.ensures c.copy_words-in-Refused.new.to c.set_integrity_level-done.result _ _ c.reported-report.result c.set_integrity_level-done.ensures.words_after (rw c.boolean_result.ensures.told at c.reported-report.ensures) (refused_left _ _ _ _ _ c.in-Refused.is (c.copy_words-in-Refused.ensures ∙ c.copy_words.ensures))

pub returns-in_default : goal.returns-in_default
returns-in_default c = let other = not_refused c.reported-report.result.outcome (opened c.in_default.in_default-own.keys2) in record { by_index = level_shown c.args.words.now c.args.strings.now c.args.sheet.now (context c.args.words.now c.args.strings.now 256) c.args.o (integrity_level c.args.level) c.start-progress.result c.start-progress.ensures c.set_integrity_level-done.new.words c.set_integrity_level-done.result _ _ c.reported-report.result c.set_integrity_level-done.ensures.words_after (rw c.boolean_result.ensures.told at c.reported-report.ensures) (turns-left _ _ c.set_integrity_level-done.ensures.committed c.reported-report.result.outcome other); words_after = turns-words _ _ c.set_integrity_level-done.ensures.committed c.reported-report.result.outcome other }
