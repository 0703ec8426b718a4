use Rattle.reporting.proofs.report_words.flags_of.Goals as goal

pub returns-in-Data : goal.returns-in-Data
returns-in-Data c = rw (c.in-Data.is, c.weight.ensures.0, c.weight-in-Data.ensures.0, c.weight-in-Data-2.ensures.0)

pub returns-in-Accessor : goal.returns-in-Accessor
returns-in-Accessor c = rw (c.in-Accessor.is, c.weight-in-Accessor.ensures.0, c.weight-in-Accessor-2.ensures.0)
