use Prim.Native.Nat.{◌<◌, ◌^◌}
use lib.ListN.{drop}
use mathlib.Core.Path.{◌≡◌}
use Rattle.property.specs.ArrayIndex.{decimal}
use Rattle.text.proofs.indices.decimal_index.Given as goal

abbrev pub invariant-loop-c : goal.invariant-loop-c
invariant-loop-c l = (l.n < 10 ^ l.c-index) × (decimal 0 l.units ≡ decimal l.n (drop l.c-index l.units))
