use native.Mathlib.Omega.{arith}
use Rattle.text.proofs.CopyLaws.{copied_more}
use Rattle.text.proofs.copying.copy.Goals as goal

pub loop-i-preserved : goal.loop-i-preserved
loop-i-preserved g c = copied_more _ _ _ _ _ (omega arith) c.loop-i-test.true c.loop-i.invariant c.index-from-i.is
