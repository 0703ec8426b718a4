-- The text of a message. Assumes nothing.
use mathlib.Core.Path.{sym}
use Rattle.message.proofs.Texts.{lengths_of, rows_of, size_fits, text-right, text_short, no_text}
use Rattle.internal_methods.specs.Messages.{codes}
use Rattle.message.proofs.text_of.Goals as goal

pub shared_ref_as_front-result : goal.shared_ref_as_front-result
unfolding lengths_of codes
shared_ref_as_front-result c = rw c.from-size.ensures (size_fits c.args.n c.if-n-lt33.true)

pub returns-then-n-lt33-clause-text : goal.returns-then-n-lt33-clause-text
unfolding lengths_of rows_of codes
returns-then-n-lt33-clause-text c = rw c.from-size.ensures (text-right c.args.n _ c.if-n-lt33.true)

pub returns-then-n-lt33-clause-short : goal.returns-then-n-lt33-clause-short
unfolding lengths_of rows_of codes
returns-then-n-lt33-clause-short c = rw c.from-size.ensures (text_short c.args.n _ c.if-n-lt33.true)

pub returns-clause-text : goal.returns-clause-text
returns-clause-text c = sym (no_text _ c.if-n-lt33.false)
