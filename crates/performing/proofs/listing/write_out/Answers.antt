use native.Mathlib.Omega.{arith}
use Rattle.text.specs.Table.{strings_of}
use Rattle.store.specs.Words.{store_of}
use Rattle.record.specs.Sheet.{sheet_of}
use Rattle.calls.specs.Outs.{state_of}
use Rattle.own_keys.specs.Loading.{listed_keys}
use Rattle.reporting.proofs.SheetLaws.{none_left, some_left}
use Rattle.performing.proofs.ListingLaws.{keys_unread, written_out, not_written}
use Rattle.performing.proofs.listing.write_out.Goals as goal

pub returns-then-progress-gt0 : goal.returns-then-progress-gt0
returns-then-progress-gt0 c = let r = c.args.run.now in let (a, (rest, unread)) = some_left r.sheet.now c.args.progress (omega (arith, c.if-progress-gt0.true)) in
    keys_unread r.store.words.now r.strings.now c.args.output.now (sheet_of r.sheet.now) (state_of r.sheet.now c.args.progress) (listed_keys r.sheet.now (strings_of r.strings.now) (store_of r.store.words.now) c.args.found) a rest _ unread c.refused.ensures

pub returns-then-n-output : goal.returns-then-n-output
returns-then-n-output c = let r = c.args.run.now in written_out r.store.words.now r.strings.now c.args.output.now _ _ (sheet_of r.sheet.now) (state_of r.sheet.now c.args.progress) _ _ c.load_list-n.ensures.listed (none_left r.sheet.now c.args.progress (omega (arith, c.if-progress-gt0.false))) _ _ c.write_keys.ensures.out_after c.write_keys.ensures.by_index c.if-n-output.true c.completed.ensures

pub returns : goal.returns
returns c = let r = c.args.run.now in not_written r.store.words.now r.strings.now c.args.output.now _ _ (sheet_of r.sheet.now) (state_of r.sheet.now c.args.progress) _ _ c.load_list-n.ensures.listed (none_left r.sheet.now c.args.progress (omega (arith, c.if-progress-gt0.false))) _ c.if-n-output.false c.refused-2.ensures
