use mathlib.Core.Path.{◌≡◌}
use mathlib.Core.List.{[], map}
use Rattle.store_read.specs.Answers.{key_from_word}
use Rattle.internal_methods.specs.KeyList.{duplicate}
use Rattle.key_lists.proofs.KeyWordLaws.{duplicate_from}
use Rattle.key_lists.proofs.duplicates.duplicate_message.Given as goal

abbrev pub invariant-loop-i : goal.invariant-loop-i
invariant-loop-i l = duplicate [] (map key_from_word l.list) ≡ duplicate_from l.list l.i
