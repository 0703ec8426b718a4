-- The report of entering a string. Assumes nothing.
use Rattle.value.specs.declared.Value.TheVariants as value
use Rattle.std.specs.Prelude.{ℕ, Result, Ok, Err}
use Rattle.text.specs.declared.EntryError.{EntryError}
use Rattle.text.specs.Answers.{refusal_of}
use Rattle.steps.specs.declared.Report.{Report}
use Rattle.steps.specs.Perform as result
use Rattle.steps.specs.Response.{report_of, refusal}
use Rattle.steps.specs.Response as ending

abbrev pub entry_report : Result ℕ EntryError → Report
entry_report (Err e) = report_of (refusal (refusal_of e))
entry_report (Ok n) = report_of (record { ending = ending.result (result.value (value.String n)); answers = 0; calls = 0 })
