use Rattle.store_write.proofs.WriteLaws.{moved-sets, length_moved}
use lib.ListN.{length}
use mathlib.Core.Path.{sym, ap, ◌∙◌}
use Rattle.store_write.proofs.removal.move_entry.Goals as goal

pub shape_of-words : goal.shape_of-words
shape_of-words c = let a = c.args in ap length (c.put_row.ensures ∙ sym (moved-sets a.words.now a.i a.j)) ∙ length_moved a.words.now a.i a.j

pub returns : goal.returns
returns c = let a = c.args in
    c.put_row.ensures ∙ sym (moved-sets a.words.now a.i a.j)
