use Rattle.std.proofs.Common.{rules}
use lib.ListN.{length}
use mathlib.Core.Path.{ap, ◌∙◌}
use Rattle.store.specs.Release.{is_owned_by}
use Rattle.store.proofs.WordLaws.{sized}
use Rattle.store_read.proofs.ReadLaws.{live_below}
use Rattle.store_write.proofs.WriteLaws.{became, becomes-released, released-stored, sized-unmarked, sized-without, other-owner}
use Rattle.store_write.proofs.removal.release_object.Goals as goal

pub with_bit-requires : goal.with_bit-requires
with_bit-requires c = live_below _ (sized _ c.requires.0) _ c.requires.1

pub retain_rows-requires-clause-size : goal.retain_rows-requires-clause-size
retain_rows-requires-clause-size c =
    let s = sized _ c.requires.0 in
    rw c.with_bit.ensures (sized-unmarked c.args.words.now s c.args.o (live_below _ s _ c.requires.1)).size

pub retain_rows-requires-clause-count : goal.retain_rows-requires-clause-count
retain_rows-requires-clause-count c =
    let s = sized _ c.requires.0 in
    rw c.with_bit.ensures (sized-unmarked c.args.words.now s c.args.o (live_below _ s _ c.requires.1)).properties

pub release_number-requires : goal.release_number-requires
release_number-requires c = let a = c.args in
    let s = sized _ c.requires.0 in
    let u = sized-unmarked a.words.now s a.o (live_below _ s _ c.requires.1) in
    let r = c.retain_rows.ensures (is_owned_by a.o) (λ w i b p. other-owner w i a.o b (search rules)) in
    ap length r ∙ rw c.with_bit.ensures (sized-without (is_owned_by a.o) _ u).size

pub returns : goal.returns
returns c = let a = c.args in
    let r = c.retain_rows.ensures (is_owned_by a.o) (λ w i b p. other-owner w i a.o b (search rules)) in
    became (released-stored a.words.now _ _ a.o _ c.with_bit.ensures r c.release_number.ensures)
    (becomes-released a.words.now c.requires.0 a.o c.requires.1)
