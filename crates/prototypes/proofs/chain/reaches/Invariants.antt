-- The loop's invariant: from p, with as many members left, the chain leads where it led from v. Assumes nothing.
use Prim.Native.Nat.{◌-◌}
use mathlib.Core.Path.{◌≡◌}
use Rattle.store.specs.Words.{store_of}
use Rattle.internal_methods.specs.Ordinary.{reaches}
use Rattle.prototypes.proofs.chain.reaches.Given as goal

abbrev pub invariant-loop : goal.invariant-loop
invariant-loop l = reaches (32 - l.counter) (store_of l.store.words.now) l.o l.p ≡ reaches 32 (store_of l.store.words.now) l.o l.fn.v
