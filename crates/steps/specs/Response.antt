-- How a call of the interface ends, and the numbers that stand for it. Assumes nothing.
use Rattle.std.specs.Prelude.{ℕ, List, length}
use Rattle.value.specs.declared.Value.{Value}
use Rattle.store.specs.Store.{World}
use Rattle.steps.specs.declared.Completion.{Completion}
use Rattle.steps.specs.declared.Completion.TheVariants as completion
use Rattle.steps.specs.declared.Outcome.{Outcome}
use Rattle.steps.specs.declared.Outcome.TheVariants as outcome
use Rattle.steps.specs.declared.Report.{Report}
use Rattle.steps.specs.Perform.{Result, value, descriptor, absent, keys, page}

pub data Ending : Type 0 where
  refused : ℕ → Ending
  result : Result → Ending
  type_error : ℕ → Ending
  thrown : Value → Ending

-- with the answers used and the calls made
pub record Response : Type 0 where
  pub ending : Ending
  pub answers : ℕ
  pub calls : ℕ

-- a refusal reports zeros
abbrev pub refusal : ℕ → Response
refusal n = record { ending = refused n; answers = 0; calls = 0 }

-- a call's response, and what it leaves
pub record Effect : Type 0 where
  pub response : Response
  pub world : World
  pub output : List ℕ

abbrev pub completion_of : Result → Completion
completion_of (value v) = completion.Value v
completion_of (descriptor p) = completion.Descriptor p
completion_of absent = completion.Absent
completion_of (keys ks) = completion.Keys (length ks)
completion_of (page text) = completion.Page (length text)

abbrev pub outcome_of : Ending → Outcome
outcome_of (refused n) = outcome.Refused n
outcome_of (result r) = outcome.Result (completion_of r)
outcome_of (type_error n) = outcome.TypeError n
outcome_of (thrown v) = outcome.Thrown v

-- the report that the code gives for a response
abbrev pub report_of : Response → Report
report_of r = record { outcome = outcome_of r.ending; answers = r.answers; calls = r.calls }

-- the outcome's number in docs/REFERENCE.md
abbrev pub outcome_number : Outcome → ℕ
outcome_number (outcome.Refused n) = 0
outcome_number (outcome.Result c) = 1
outcome_number (outcome.TypeError n) = 2
outcome_number (outcome.Thrown v) = 3

-- the number of the refusal or of the message, and 0 where there is none
abbrev pub refusal_or_message : Outcome → ℕ
refusal_or_message (outcome.Refused n) = n
refusal_or_message (outcome.Result c) = 0
refusal_or_message (outcome.TypeError n) = n
refusal_or_message (outcome.Thrown v) = 0
