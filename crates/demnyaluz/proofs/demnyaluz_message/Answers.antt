use Rattle.demnyaluz.proofs.demnyaluz_message.Goals as goal

pub returns : goal.returns
returns c = record { size = c.write_message.ensures.size; after = c.write_message.ensures.after }
