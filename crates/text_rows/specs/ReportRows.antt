-- The row of a report, whose keys stand in the output. Assumes nothing.
use Rattle.std.specs.Prelude.{ℕ, ◌*◌, ◌≤◌, List, [], length, take}
use Rattle.property.specs.Descriptor.{descriptor_of, from_property_descriptor}
use Rattle.record.specs.Bytes.{value_size, value_bytes}
use Rattle.record.specs.Descriptor.{descriptor_bytes}
use Rattle.steps.specs.declared.Completion.{Completion}
use Rattle.steps.specs.declared.Completion.TheVariants as completion
use Rattle.steps.specs.declared.Outcome.{Outcome}
use Rattle.steps.specs.declared.Outcome.TheVariants as outcome
use Rattle.steps.specs.declared.Report.{Report}
use Rattle.steps.specs.Response.{outcome_number, refusal_or_message}
use Rattle.text_form.specs.Rows.{row_of}

abbrev pub completion_bytes : Completion → List ℕ → List ℕ
completion_bytes (completion.Value v) output = value_bytes v
completion_bytes (completion.Descriptor p) output = descriptor_bytes (from_property_descriptor (descriptor_of p))
completion_bytes completion.Absent output = []
completion_bytes (completion.Keys n) output = take (value_size * n) output
completion_bytes (completion.Page n) output = []

abbrev pub outcome_bytes : Outcome → List ℕ → List ℕ
outcome_bytes (outcome.Refused n) output = []
outcome_bytes (outcome.Result c) output = completion_bytes c output
outcome_bytes (outcome.TypeError n) output = []
outcome_bytes (outcome.Thrown v) output = value_bytes v

abbrev pub report_row : ℕ → Report → List ℕ → List ℕ
report_row line r output = row_of line (outcome_number r.outcome) (refusal_or_message r.outcome) r.answers r.calls (outcome_bytes r.outcome output)

-- at most 256 keys, and they stand in the output
abbrev pub CompletionHeld : Completion → List ℕ → Type 0
CompletionHeld (completion.Value v) output = Unit {0}
CompletionHeld (completion.Descriptor p) output = Unit {0}
CompletionHeld completion.Absent output = Unit {0}
CompletionHeld (completion.Keys n) output = (value_size * n ≤ length output) × (n ≤ 256)
CompletionHeld (completion.Page n) output = Unit {0}

abbrev pub Held : Outcome → List ℕ → Type 0
Held (outcome.Refused n) output = Unit {0}
Held (outcome.Result c) output = CompletionHeld c output
Held (outcome.TypeError n) output = Unit {0}
Held (outcome.Thrown v) output = Unit {0}

-- the longest row: five numbers of 20 digits, five spaces, 256 keys and a line feed
abbrev pub maximum_row : ℕ
maximum_row = 4714
