use Prim.Native.Nat.{◌+◌, ◌-◌}
use native.Mathlib.Omega.{arith}
use mathlib.Core.Path.{◌≡◌}
use Rattle.prototypes.proofs.ChainLaws.{chain}
use Rattle.prototypes.proofs.chain.reaches.Goals as goal

pub loop-preserved : goal.loop-preserved
loop-preserved c = let left : 32 - (c.loop.counter + 1) ≡ 32 - c.loop.counter - 1 = omega arith in grind (arith, chain)

pub returns : goal.returns
returns c = let left : 32 - c.loop.counter ≡ 0 = omega arith in grind (arith, chain)
