-- Completing, validating and merging descriptors over lent memory, and what is reported. Assumes nothing.
use Rattle.std.specs.Prelude.{ℕ, Bool, false, if◌then◌else◌, List, Result, Ok, Err}
use Rattle.std.specs.Option.{option_map_or}
use Rattle.property.specs.declared.Property.{Property}
use Rattle.record.specs.declared.Counts.{Counts}
use Rattle.store.specs.Words.{world_of}
use Rattle.steps.specs.declared.Completion.{Completion}
use Rattle.steps.specs.declared.Completion.TheVariants.{Descriptor, Absent}
use Rattle.steps.specs.declared.Outcome.TheVariants as outcome
use Rattle.steps.specs.declared.Report.{Report}
use Rattle.steps.specs.Response.{report_of, refusal}
use Rattle.steps.specs.Step.{counts_of}
use Rattle.reporting.specs.Memory.{is_memory}
use Rattle.descriptor_entries.specs.declared.operations.Verdict.{Verdict}
use Rattle.descriptor_entries.specs.Operations.{◌>>=◌, complete_record, validate_records, merge_records}

-- how many objects and strings the memory holds, and which objects are callable; words that are no store and cells that are no table are malformed
unfoldable pub counts_in : List ℕ → List ℕ → Result Counts ℕ
counts_in words cells = if is_memory words cells then Ok (counts_of (world_of words cells)) else Err 1

-- no answers, no calls
abbrev pub completed_report : Completion → Report
completed_report c = record { outcome = outcome.Result c; answers = 0; calls = 0 }

abbrev pub answer_report : Result Property ℕ → Report
answer_report (Ok p) = completed_report (Descriptor p)
answer_report (Err n) = report_of (refusal n)

-- the property after a verdict
abbrev pub verdict_report : Result Verdict ℕ → Report
verdict_report (Ok v) = completed_report (option_map_or Descriptor v.after Absent)
verdict_report (Err n) = report_of (refusal n)

abbrev pub is_accepted : Result Verdict ℕ → Bool
is_accepted (Ok v) = v.accepted
is_accepted (Err n) = false

-- the first test of 10.1.6.3 that fails; 0 where it is accepted or refused
abbrev pub failed_test : Result Verdict ℕ → ℕ
failed_test (Ok v) = v.failed_test
failed_test (Err n) = 0

unfoldable pub complete_over : List ℕ → List ℕ → List ℕ → Report
complete_over words cells bytes = answer_report (counts_in words cells >>= λ n. complete_record n bytes)

unfoldable pub validate_over : List ℕ → List ℕ → Bool → List ℕ → List ℕ → Result Verdict ℕ
validate_over words cells extensible bytes current = counts_in words cells >>= λ n. validate_records n extensible bytes current

unfoldable pub merge_over : List ℕ → List ℕ → List ℕ → List ℕ → Report
merge_over words cells current bytes = answer_report (counts_in words cells >>= λ n. merge_records n current bytes)
