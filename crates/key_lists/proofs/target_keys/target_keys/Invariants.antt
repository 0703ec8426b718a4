use mathlib.Core.Path.{◌≡◌}
use lib.ListN.{length, take}
use Rattle.key_lists.specs.Records.{records_of}
use Rattle.key_lists.proofs.target_keys.target_keys.Given as goal

abbrev pub invariant-loop-i : goal.invariant-loop-i
invariant-loop-i l = (length l.records ≡ 256) × (take l.i l.records ≡ records_of (take l.i l.keys) (take l.i l.marks))
