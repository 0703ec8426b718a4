use mathlib.Core.Path.{refl}
use Rattle.value.specs.Words.{payload_of}
use Rattle.store_write.proofs.WriteLaws.{fits-undefined}
use Rattle.reporting.specs.ReportWords.{report_words}
use Rattle.reporting.proofs.ReportLaws.{words-tell, value_tells}
use Rattle.reporting.proofs.report_words.completion_words.Goals as goal

pub returns-in-Value : goal.returns-in-Value
returns-in-Value c = rw c.in-Value.is (value_tells c.value_words.ensures)

pub returns-in-Descriptor : goal.returns-in-Descriptor
returns-in-Descriptor c = rw c.in-Descriptor.is c.property_words.ensures

pub returns-in-Absent : goal.returns-in-Absent
unfolding report_words payload_of
returns-in-Absent c = rw c.in-Absent.is (words-tell refl fits-undefined fits-undefined)

pub returns-in-Keys : goal.returns-in-Keys
unfolding report_words payload_of
returns-in-Keys c = rw c.in-Keys.is (words-tell refl fits-undefined fits-undefined)

pub returns-in-Page : goal.returns-in-Page
unfolding report_words payload_of
returns-in-Page c = rw c.in-Page.is (words-tell refl fits-undefined fits-undefined)
