use Rattle.record.specs.Characters.{decimal}
use Rattle.text_rows.proofs.RowLaws.{written_byte}
use Rattle.text_rows.proofs.put_number.Goals as goal

pub returns : goal.returns
returns c = written_byte _ _ c.args.at 20 _ (decimal c.args.n) 32 c.put_decimal-end.ensures.out_after.0 c.put_decimal-end.ensures.out_after.1 c.put_decimal-end.ensures.upper_bound
