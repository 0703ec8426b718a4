use mathlib.Core.Path.{ap, ◌∙◌}
use Rattle.reporting.specs.ReportWords.{report_words}
use Rattle.demnyaluz.proofs.demnyaluz_complete.Goals as goal

pub returns : goal.returns
returns c = record { reported = c.write_report.ensures.0 ∙ ap report_words c.complete.ensures }
