use Rattle.sheet.proofs.FromLaws.{sheet-from}
use Rattle.reporting.proofs.SheetLaws.{sheet_there}
use Rattle.performing.proofs.LevelLaws.{test_shown}
use Rattle.steps.specs.Perform.{perform}
use Rattle.performing.proofs.levels.test_level.Goals as goal

pub start-progress-requires : goal.start-progress-requires
start-progress-requires c = sheet_there _ c.requires.1.0

pub test_integrity_level-done-requires : goal.test_integrity_level-done-requires
test_integrity_level-done-requires c = rw (c.start-progress.ensures, sheet-from _ c.requires.1.0) c.requires.1.1

pub returns : goal.returns
unfolding perform
returns c output = test_shown c.args.store.words.now c.args.strings.now c.args.sheet.now output _ c.start-progress.result _ c.start-progress.ensures _ c.test_integrity_level-done.ensures _ (rw c.boolean_result.ensures.told at c.reported.ensures) (rw c.boolean_result.ensures.told at c.boolean_result.ensures.plain)
