use mathlib.Core.Path.{◌∙◌}
use Rattle.byte_records.proofs.ByteLaws.{word-of}
use Rattle.byte_records.proofs.numbers.word_at.Goals as goal

pub returns : goal.returns
returns c = c.from_le_bytes.ensures ∙ word-of c.args.bytes.now c.args.at
