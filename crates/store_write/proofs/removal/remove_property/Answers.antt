use Rattle.std.proofs.Common.{rules}
use Rattle.store.specs.declared.Entry.{Entry}
use Rattle.store.specs.Store.{is_at}
use Rattle.store.specs.Words.{without_row}
use Rattle.store_write.proofs.WriteLaws.{became, becomes-without, other-key}
use Rattle.store_write.proofs.removal.remove_property.Goals as goal

pub returns : goal.returns
unfolding without_row
returns c = let a = c.args in
    became (c.retain_rows.ensures (λ (e : Entry). is_at e a.o a.k) (λ w i b p. other-key w i a.o b a.k _ c.requires.1.owner c.key_word-key.ensures (search rules))) (becomes-without a.words.now c.requires.0 a.o a.k)
