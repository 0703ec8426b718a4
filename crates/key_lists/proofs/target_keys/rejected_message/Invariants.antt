use mathlib.Core.Path.{◌≡◌}
use mathlib.Core.List.{map}
use Rattle.store_read.specs.Answers.{key_from_word}
use Rattle.internal_methods.specs.KeyList.{rejected}
use Rattle.key_lists.specs.Records.{sorted_keys}
use Rattle.key_lists.specs.Unchecked.{unchecked}
use Rattle.key_lists.proofs.TurnLaws.{first_left, second_left}
use Rattle.key_lists.proofs.target_keys.rejected_message.Given as goal

abbrev pub invariant-loop-record : goal.invariant-loop-record
invariant-loop-record l =
    rejected l.extensible (sorted_keys l.target) (map key_from_word l.fn.list)
    ≡ first_left l.extensible l.target l.record-index (unchecked l.list)

abbrev pub invariant-loop-record-2 : goal.invariant-loop-record-2
invariant-loop-record-2 l =
    rejected l.extensible (sorted_keys l.target) (map key_from_word l.fn.list)
    ≡ second_left l.target l.record-index (unchecked l.list)
