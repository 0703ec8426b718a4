use Rattle.demnyaluz.proofs.demnyaluz_empty_strings.Goals as goal

pub returns : goal.returns
returns c = record { answer = c.make_empty.ensures.answer; after = c.make_empty.ensures.after; empty = c.make_empty.ensures.empty; table = c.make_empty.ensures.table }
