use Prim.Native.Nat.{◌/◌}
use mathlib.Core.Path.{ap}
use lib.ListN.{length}
use Rattle.text_form.specs.Lines.{entry_of}
use Rattle.text_line.proofs.LineLaws.{as_call, odd-text, half_length, even-halved, front_length, front-units, written-half}
use Rattle.text_line.proofs.Memory.perform_units.Goals as goal

pub returns-then-text-eq1 : goal.returns-then-text-eq1
returns-then-text-eq1 c = as_call (ap (entry_of _) (odd-text _ c.if-text-eq1.true)) c.refuse.ensures.done

pub slice_bounds-put_units-end-2 : goal.slice_bounds-put_units-end-2
slice_bounds-put_units-end-2 c = half_length c.args.text.now c.args.units.now c.requires.1

pub put_units-requires : goal.put_units-requires
put_units-requires c = even-halved c.args.text.now c.args.units.now c.requires.1 c.if-text-eq1.false

pub slice_bounds-perform_entry-end-2 : goal.slice_bounds-perform_entry-end-2
slice_bounds-perform_entry-end-2 c = front_length (length c.args.text.now / 2) c.put_units.new.units _ (written-half _ _ c.put_units.ensures)

pub returns : goal.returns
returns c = as_call (ap (entry_of _) (front-units (length c.args.text.now / 2) c.put_units.new.units _ (written-half _ _ c.put_units.ensures) c.put_units.ensures)) c.perform_entry.ensures
