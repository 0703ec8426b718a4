use Rattle.demnyaluz.proofs.demnyaluz_empty_store.Goals as goal

pub returns : goal.returns
returns c = record { answer = c.make_empty.ensures.value; after = c.make_empty.ensures.words_after; empty = c.make_empty.ensures.words_after_2 }
