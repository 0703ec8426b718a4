use mathlib.Core.Path.{◌≡◌}
use lib.ListN.{length}
use Rattle.key_lists.proofs.KeyLaws.{written}
use Rattle.key_lists.proofs.key_bytes.write_keys.Given as goal

abbrev pub invariant-loop-i : goal.invariant-loop-i
invariant-loop-i l = (length l.out ≡ length l.initial.out) × (l.out ≡ written l.list l.initial.out l.i)
