use Rattle.store_write.proofs.WriteLaws.{became, becomes-new-row, new-row-stored}
use Rattle.store_write.proofs.properties.add_property.Goals as goal

pub returns : goal.returns
returns c = let a = c.args in
    let h = c.write_row.ensures in
    became (new-row-stored a.words.now _ a.o a.k a.p _ c.key_word.ensures h.0)
    (becomes-new-row a.words.now c.requires.0 a.o a.k a.p c.requires.1 h.1)
