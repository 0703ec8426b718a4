use Rattle.store_write.proofs.WriteLaws.{row-stored}
use Rattle.store_write.proofs.properties.write_row.Goals as goal

pub returns : goal.returns
returns c = let h = c.property_words-w.ensures in (row-stored _ _ _ _ _ h c.put_row.ensures, h.fits)
