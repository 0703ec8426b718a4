use native.Mathlib.Omega.{arith}
use mathlib.Core.Path.{◌∙◌}
use Rattle.record.specs.Bytes.{value_bytes}
use Rattle.byte_records.proofs.ByteLaws.{store-words}
use Rattle.byte_records.proofs.value_record.put_value.Goals as goal

pub returns : goal.returns
unfolding value_bytes
returns c = store-words c.args.out.now _ c.args.at _ _ _ (c.copy_from_slice.ensures.after ∙ c.to_le_bytes.ensures) (omega arith) c.requires
    ∙ rw (c.words_of-kind.ensures.0, c.words_of-kind.ensures.1.0)
