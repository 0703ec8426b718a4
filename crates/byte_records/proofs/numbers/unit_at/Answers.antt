use mathlib.Core.Path.{sym, ◌∙◌}
use Rattle.byte_records.proofs.ByteLaws.{short-of}
use Rattle.byte_records.proofs.numbers.unit_at.Goals as goal

pub returns : goal.returns
returns c = c.from_le_bytes.ensures ∙ sym (short-of c.args.bytes.now c.args.at)
