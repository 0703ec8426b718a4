use Rattle.store_write.proofs.WriteLaws.{fits-words}
use Rattle.reporting.proofs.report_words.value_words.Goals as goal

pub returns : goal.returns
returns c = let first = c.words_of-first.ensures in record { ten = rw (first.0, first.1.0); fits = fits-words _ _ _ first.0 first.1.0 first.1.1.0 }
