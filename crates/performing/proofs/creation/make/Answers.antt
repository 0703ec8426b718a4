use mathlib.Core.Path.{sym, ◌∙◌}
use Rattle.performing.specs.Creation.{make_out}
use Rattle.performing.proofs.creation.make.Goals as goal

pub returns-then-has_object_room-clause-value : goal.returns-then-has_object_room-clause-value
unfolding make_out
returns-then-has_object_room-clause-value c = rw (sym c.has_object_room.ensures ∙ c.if-has_object_room.true, c.named.ensures, c.next_number-number.ensures.1)

pub returns-else-has_object_room-clause-value : goal.returns-else-has_object_room-clause-value
unfolding make_out
returns-else-has_object_room-clause-value c = rw (sym c.has_object_room.ensures, c.if-has_object_room.false)
