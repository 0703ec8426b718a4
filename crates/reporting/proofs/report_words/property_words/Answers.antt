use Rattle.value.specs.Words.{payload_of}
use Rattle.store_write.proofs.WriteLaws.{fits-words, fits-undefined}
use Rattle.reporting.specs.ReportWords.{report_words}
use Rattle.reporting.proofs.ReportLaws.{words-tell}
use Rattle.reporting.proofs.report_words.property_words.Goals as goal

pub returns-in-Data : goal.returns-in-Data
unfolding report_words payload_of
returns-in-Data c = let first = c.words_of-first.ensures in
    rw c.in-Data.is
    (words-tell (rw (first.0, first.1.0, c.flags_of.ensures)) (fits-words _ _ _ first.0 first.1.0 first.1.1.0) fits-undefined)

pub returns-in-Accessor : goal.returns-in-Accessor
unfolding report_words
returns-in-Accessor c = let first = c.words_of-first-in-Accessor.ensures in
    let second = c.words_of-second.ensures in
    rw c.in-Accessor.is
    (words-tell
    (rw (first.0, first.1.0, second.0, second.1.0, c.flags_of-in-Accessor.ensures))
    (fits-words _ _ _ first.0 first.1.0 first.1.1.0)
    (fits-words _ _ _ second.0 second.1.0 second.1.1.0))
