use native.Mathlib.Omega.{arith}
use mathlib.Core.Path.{refl}
use lib.ListN.{length-set}
use Rattle.key_lists.specs.Records.{records_of}
use Rattle.key_lists.proofs.TurnLaws.{records-set}
use Rattle.key_lists.proofs.target_keys.target_keys.Goals as goal

pub loop-i-init : goal.loop-i-init
unfolding records_of
loop-i-init c = (refl, refl)

pub loop-i-preserved : goal.loop-i-preserved
loop-i-preserved c = let l = c.loop-i in (
  simp length-set l.invariant.0,
  records-set l.records c.args.keys.now c.args.marks.now l.i (omega (arith, l.invariant.0)) (omega arith) (omega arith) l.invariant.1 _ refl refl,
)
