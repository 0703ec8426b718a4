use Rattle.text_rows.specs.ReportRows.{outcome_bytes}
use Rattle.text_rows.proofs.RowLaws.{row_written}
use Rattle.text_rows.proofs.put_row.Goals as goal

pub returns : goal.returns
returns c = let a = c.args in let w = rw (c.outcome_number.ensures, c.refusal_or_message.ensures) at (row_written a.line c.outcome_number.result c.refusal_or_message.result a.report.answers a.report.calls (outcome_bytes a.report.outcome a.output.now) c.put_number-second.ensures c.put_number-third.ensures c.put_number-fourth.ensures c.put_number-fifth.ensures c.put_number-last.ensures c.put_outcome.ensures) in record { rows_after = (w.bytes, w.place); upper_bound = w.within }
