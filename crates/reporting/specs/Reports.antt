-- What the code reports once a run has ended, and the words after it. Assumes nothing.
use Rattle.std.specs.Prelude.{ℕ, zero, suc, ◌-◌, ◌≡◌, List, [], ◌∷◌, length, Result, Ok, Err}
use Rattle.store.specs.Words.{store_of}
use Rattle.store_write.specs.declared.write.Write.{Write}
use Rattle.store_write.specs.Write.{applied, written_to, Becomes}
use Rattle.internal_methods.specs.declared.Failure.{Failure}
use Rattle.internal_methods.specs.declared.Failure.TheVariants.{Refused, TypeError, Thrown}
use Rattle.internal_methods.specs.Monad.{Answer, State}
use Rattle.record.specs.Bytes.{byte_at}
use Rattle.record.specs.Sheet.{sheet_of}
use Rattle.calls.specs.declared.progress.Progress.{Progress}
use Rattle.calls.specs.Place.{progress}
use Rattle.calls.specs.Outs.{state_of}
use Rattle.steps.specs.declared.Completion.{Completion}
use Rattle.steps.specs.declared.Outcome.{Outcome}
use Rattle.steps.specs.declared.Outcome.TheVariants as outcome
use Rattle.steps.specs.declared.Report.{Report}
use Rattle.steps.specs.Perform.{maximum_calls}
use Rattle.steps.specs.Response.{refusal, report_of}
use Rattle.reporting.specs.declared.Performed.{Performed}

-- at the first answer, with all its calls
abbrev pub start : List ℕ → Progress
start sheet = progress 1 (byte_at sheet 0) maximum_calls

-- refusal 13, if answers are unread
abbrev pub unless_unread : List Answer → Report → Report
unless_unread [] r = r
unless_unread (a ∷ rest) r = report_of (refusal 13)

-- of a run that ended so
abbrev pub ended_report : List Answer → Outcome → State → Report
ended_report answers o s = unless_unread s.answers (record { outcome = o; answers = length answers - length s.answers; calls = maximum_calls - s.calls })

abbrev pub failure_report : List Answer → Failure → State → Report
failure_report answers (Refused n) s = report_of (refusal n)
failure_report answers (TypeError n) s = ended_report answers (outcome.TypeError n) s
failure_report answers (Thrown v) s = ended_report answers (outcome.Thrown v) s

abbrev pub completion_report : List Answer → Completion → State → Report
completion_report answers c s = ended_report answers (outcome.Result c) s

abbrev pub reported : List ℕ → Result Completion Failure → Progress → Report
reported sheet (Err f) s = failure_report (sheet_of sheet) f (state_of sheet s)
reported sheet (Ok c) s = completion_report (sheet_of sheet) c (state_of sheet s)

abbrev pub performed_report : List ℕ → Result Performed Failure → Progress → Report
performed_report sheet (Err f) s = failure_report (sheet_of sheet) f (state_of sheet s)
performed_report sheet (Ok p) s = completion_report (sheet_of sheet) p.completion (state_of sheet s)

-- the one write is made if no answer is left
abbrev pub Written : ℕ → Write → List ℕ → List ℕ → Type 0
Written zero w before after = Becomes after (written_to w before) (applied w (store_of before))
Written (suc left) w before after = after ≡ before

-- the words after it: as they were, or with the one write
abbrev pub Finished : List ℕ → List ℕ → Result Performed Failure → Progress → Type 0
Finished before after (Err f) s = after ≡ before
Finished before after (Ok p) s = Written s.left p.write before after
