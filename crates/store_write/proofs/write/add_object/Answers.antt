use lib.ListN.{length}
use mathlib.Core.Path.{ap, ◌∙◌}
use Prim.Native.Nat.{◌<◌}
use Rattle.store.proofs.WordLaws.{sized}
use Rattle.store_write.proofs.WriteLaws.{became, becomes-new-object, new-object-stored, next-below, sized-live}
use Rattle.store_write.proofs.write.add_object.Goals as goal

pub write_live-requires : goal.write_live-requires
write_live-requires c = let s = sized _ c.requires.0 in
    (s.size, rw c.next_number-n.ensures.0 (next-below _ c.requires.1))

pub take_number-requires : goal.take_number-requires
take_number-requires c = let a = c.args in
    let l : c.next_number-n.result < 32 = rw c.next_number-n.ensures.0 (next-below _ c.requires.1) in
    let s = sized-live a.words.now (sized _ c.requires.0) c.next_number-n.result a.x a.callable l in
    let e = c.write_live.ensures.0 in
    (ap length e ∙ s.size, rw e s.made)

pub returns : goal.returns
returns c = let a = c.args in
    let h = c.write_live.ensures in
    became (new-object-stored a.words.now _ _ _ a.x a.callable c.next_number-n.ensures.0 h.0 c.take_number.ensures)
    (becomes-new-object a.words.now c.requires.0 a.x a.callable c.requires.1 h.1)
