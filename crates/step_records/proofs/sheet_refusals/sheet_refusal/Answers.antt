use native.Mathlib.Omega.{arith}
use Rattle.step_records.proofs.SheetLaws.{from_past, from_more, answer_least}
use Rattle.step_records.proofs.sheet_refusals.sheet_refusal.Goals as goal

pub returns-in_default-answer_end : goal.returns-in_default-answer_end
returns-in_default-answer_end c = grind (arith, from_past)

pub loop-preserved : goal.loop-preserved
loop-preserved c = grind (arith, from_more, answer_least)
