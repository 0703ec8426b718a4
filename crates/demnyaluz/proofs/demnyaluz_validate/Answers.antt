use mathlib.Core.Path.{ap, ◌∙◌}
use Rattle.reporting.specs.ReportWords.{report_words}
use Rattle.descriptor_entries.specs.Entries.{verdict_report, is_accepted, failed_test}
use Rattle.demnyaluz.proofs.demnyaluz_validate.Goals as goal

pub returns : goal.returns
returns c = record { accepted = c.is_accepted.ensures ∙ ap is_accepted c.validate-verdict.ensures; tested = c.failed_test.ensures ∙ ap failed_test c.validate-verdict.ensures; reported = c.write_report.ensures.0 ∙ ap report_words (c.verdict_report.ensures ∙ ap verdict_report c.validate-verdict.ensures) }
