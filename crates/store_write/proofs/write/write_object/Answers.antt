use Rattle.store_write.proofs.WriteLaws.{object-stored}
use Rattle.store_write.proofs.write.write_object.Goals as goal

pub returns : goal.returns
returns c = let h = c.object_words-w.ensures in (object-stored _ _ _ _ _ h c.put_three.ensures, h.fits)
