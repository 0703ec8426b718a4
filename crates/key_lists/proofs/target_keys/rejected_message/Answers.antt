use mathlib.Core.Path.{sym, ◌∙◌}
use Rattle.key_lists.proofs.TurnLaws.{first-start, first-off, first-missing, first-skip, first-over, first-done, second-off, second-missing, second-skip, some-left, all-found}
use Rattle.key_lists.proofs.target_keys.rejected_message.Goals as goal
use Rattle.key_lists.proofs.target_keys.rejected_message.Goals.{else-not-record-via-then-not-record+else-not-check_off, else-not-record-via-else-not-record, else-record-via-then-record+else-not-check_off-2, else-record-via-else-record}

pub loop-record-init : goal.loop-record-init
loop-record-init c = first-start _ _ _ c.requires

pub returns-then-not-check_off : goal.returns-then-not-check_off
returns-then-not-check_off c = (sym (c.loop-record.invariant ∙ first-missing _ _ c.loop-record-test.true _ _ _ c.check_off.ensures _ c.if-not-record.true c.if-not-check_off.true))

pub loop-record-preserved : goal.loop-record-preserved
loop-record-preserved c = elim c.else-not-record.branch [
  | else-not-record-via-then-not-record+else-not-check_off w ↦ rw w.list-is (c.loop-record.invariant ∙ first-off _ _ c.loop-record-test.true _ _ _ w.check_off.ensures _ w.if-not-record.true w.if-not-check_off.false)
  | else-not-record-via-else-not-record w ↦ rw w.list-is (c.loop-record.invariant ∙ first-skip _ _ c.loop-record-test.true _ _ w.if-not-record.false)
]

pub returns-then-extensible : goal.returns-then-extensible
returns-then-extensible c = (sym (c.loop-record.invariant ∙ first-over _ _ c.loop-record-test.false _ _ c.if-extensible.true))

pub loop-record-2-init : goal.loop-record-2-init
loop-record-2-init c = c.loop-record.invariant ∙ first-done _ _ c.loop-record-test.false _ _ c.if-extensible.false

pub returns-then-not-check_off-2 : goal.returns-then-not-check_off-2
returns-then-not-check_off-2 c = (sym (c.loop-record-2.invariant ∙ second-missing _ _ c.loop-record-2-test.true _ _ _ c.check_off-then-record.ensures c.if-record.true c.if-not-check_off-2.true))

pub loop-record-2-preserved : goal.loop-record-2-preserved
loop-record-2-preserved c = elim c.else-record.branch [
  | else-record-via-then-record+else-not-check_off-2 w ↦ rw w.list-is (c.loop-record-2.invariant ∙ second-off _ _ c.loop-record-2-test.true _ _ _ w.check_off-then-record.ensures w.if-record.true w.if-not-check_off-2.false)
  | else-record-via-else-record w ↦ rw w.list-is (c.loop-record-2.invariant ∙ second-skip _ _ c.loop-record-2-test.true _ w.if-record.false)
]

pub returns-then-any_left : goal.returns-then-any_left
returns-then-any_left c = (sym (c.loop-record-2.invariant ∙ some-left _ _ c.loop-record-2-test.false _ _ c.any_left.ensures c.if-any_left.true))

pub returns : goal.returns
returns c = (sym (c.loop-record-2.invariant ∙ all-found _ _ c.loop-record-2-test.false _ _ c.any_left.ensures c.if-any_left.false))
