use Rattle.sheet.proofs.FromLaws.{sheet-from}
use Rattle.store.specs.Store.{maximum_properties}
use Rattle.reporting.proofs.SheetLaws.{sheet_there}
use Rattle.performing.proofs.ListingLaws.{listing_failed, listing_done}
use Rattle.performing.proofs.listing.list.Goals as goal

pub start-progress-requires : goal.start-progress-requires
start-progress-requires c = sheet_there _ c.requires.1.0

pub own_property_keys-requires : goal.own_property_keys-requires
own_property_keys-requires c = rw (c.start-progress.ensures, sheet-from _ c.requires.1.0) c.requires.1.1

pub returns-in-Err : goal.returns-in-Err
returns-in-Err c = listing_failed c.args.store.words.now c.args.strings.now c.args.sheet.now c.args.output.now maximum_properties c.args.o _ c.start-progress.ensures _ _ _ (rw c.in-Err.is at c.own_property_keys.ensures.result_value) c.failed.ensures

pub returns-in-Ok : goal.returns-in-Ok
returns-in-Ok c = listing_done c.args.store.words.now c.args.strings.now c.args.sheet.now c.args.output.now maximum_properties c.args.o _ c.start-progress.ensures _ _ _ (rw c.in-Ok.is at c.own_property_keys.ensures.result_value) c.write_out.ensures
