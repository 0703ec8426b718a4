use mathlib.Core.Path.{refl}
use Rattle.value.specs.Words.{payload_of}
use Rattle.store_write.proofs.WriteLaws.{fits-undefined}
use Rattle.reporting.specs.ReportWords.{report_words}
use Rattle.reporting.proofs.ReportLaws.{words-tell, thrown-tells, outcome-tells}
use Rattle.reporting.proofs.report_words.report_words.Goals as goal

pub returns-in-Refused : goal.returns-in-Refused
unfolding report_words payload_of
returns-in-Refused c = outcome-tells c.in-Refused.is (words-tell refl fits-undefined fits-undefined)

pub returns-in-Result : goal.returns-in-Result
returns-in-Result c = outcome-tells c.in-Result.is c.completion_words.ensures

pub returns-in-TypeError : goal.returns-in-TypeError
unfolding report_words payload_of
returns-in-TypeError c = outcome-tells c.in-TypeError.is (words-tell refl fits-undefined fits-undefined)

pub returns-in-Thrown : goal.returns-in-Thrown
returns-in-Thrown c = outcome-tells c.in-Thrown.is (thrown-tells c.value_words.ensures)
