use Rattle.message.proofs.WrittenLaws.{written-fits, written-not}
use Rattle.message.proofs.writing.write_message.Goals as goal

pub returns-then-size-text-clause-after : goal.returns-then-size-text-clause-after
returns-then-size-text-clause-after c = written-fits _ _ c.args.text.now c.text_of-message.ensures.text _ c.copy_from_slice.ensures.after c.if-size-text.true

pub returns-else-size-text-clause-after : goal.returns-else-size-text-clause-after
returns-else-size-text-clause-after c = written-not _ _ c.args.text.now c.text_of-message.ensures.text c.if-size-text.false
