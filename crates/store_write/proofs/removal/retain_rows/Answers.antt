use native.Mathlib.Omega.{arith}
use mathlib.Core.Bool.{not}
use mathlib.Core.Path.{◌≡◌, sym, ap, ◌∙◌}
use Rattle.store.specs.Words.{moved}
use Rattle.store_write.proofs.WriteLaws.{moved-size, turn-hit, turn-miss, turn_end}
use Rattle.store_write.proofs.removal.retain_rows.Goals as goal
use Rattle.store_write.proofs.removal.retain_rows.Goals.{then-stays, else-stays}

pub loop-i-preserved : goal.loop-i-preserved
loop-i-preserved g c = let l = c.loop-i in elim c.if-stays.branch [
  | then-stays w ↦
      let m : c.if-stays.words ≡ moved l.words l.i l.kept = w.words-is ∙ w.move_entry.ensures in
      (omega arith, (moved-size l.words _ _ _ _ m l.invariant.1.0, λ test h. rw (m, w.kept-is) (l.invariant.1.1 test h ∙ turn-miss test _ _ _ _ c.loop-i-test.true (h l.words l.i _ c.stays.ensures ∙ ap not w.if-stays.true))))
  | else-stays w ↦
      (omega arith, (rw w.words-is l.invariant.1.0, λ test h. rw (w.words-is, w.kept-is) (l.invariant.1.1 test h ∙ turn-hit test _ _ _ _ c.loop-i-test.true (h l.words l.i _ c.stays.ensures ∙ ap not w.if-stays.false))))
]

pub returns : goal.returns
returns g c = λ test h. sym (c.loop-i.invariant.1.1 test h ∙ turn_end test _ _ _ _ c.loop-i-test.false)
