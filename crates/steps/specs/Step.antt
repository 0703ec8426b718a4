-- A step over bytes: what is refused, what is run, and what world and output are after it. Assumes nothing.
use Rattle.std.specs.Prelude.{ℕ, ◌-◌, ◌*◌, Bool, true, false, List, [], ◌∷◌, ◌++◌, leb, length, drop, Option, None, Some}
use Rattle.value.specs.declared.PropertyKey.{PropertyKey}
use Rattle.value.specs.PropertyKey.{key_value}
use Rattle.store.specs.declared.Object.{Object}
use Rattle.store.specs.declared.Object.TheVariants.{Ordinary, Proxy}
use Rattle.store.specs.Store.{Store, World, lookup, live_marks, maximum_properties}
use Rattle.store.specs.Release.{is_named}
use Rattle.internal_methods.specs.declared.Failure.TheVariants.{Refused, TypeError, Thrown}
use Rattle.internal_methods.specs.Monad.{Answer, State, state, Out, failed, done}
use Rattle.internal_methods.specs.Methods.{Context}
use Rattle.record.specs.Bytes.{value_size, value_bytes}
use Rattle.record.specs.Tests.{Counts, is_made, is_known, is_descriptor, first_failing}
use Rattle.record.specs.Step.{step_of, is_step, are_objects_made, are_kinds_usable, is_releasable}
use Rattle.record.specs.Sheet.{sheet_of, is_sheet, sheet_passes}
use Rattle.steps.specs.Operation.{asked}
use Rattle.steps.specs.Sequence.{Ran}
use Rattle.steps.specs.Perform.{Result, value, descriptor, absent, keys, page, maximum_calls, perform}
use Rattle.steps.specs.Response.{Ending, refused, result, type_error, thrown, Response, refusal, Effect}

abbrev pub counts_of : World → Counts
counts_of ω = record { live = live_marks ω.store.objects; strings = length ω.strings; callable = ω.store.callable }

abbrev pub context_of : World → Context
context_of ω = record { store = ω.store; strings = ω.strings; allowance = maximum_properties }

abbrev pub is_proxy : Option Object → Bool
is_proxy None = false
is_proxy (Some (Ordinary r)) = false
is_proxy (Some (Proxy p)) = true

-- refusals 1 to 3, 14 and 4 over the step, then 1 to 3 over the sheet
abbrev pub record_tests : World → List ℕ → List ℕ → List (ℕ × Bool)
record_tests ω bytes sheet =
    (1, is_step bytes)
    ∷ (2, are_objects_made (counts_of ω) (step_of bytes))
    ∷ (3, are_kinds_usable (is_proxy (lookup ω.store (step_of bytes).object)) (counts_of ω) (step_of bytes))
    ∷ (14, is_releasable (is_named ω.store (step_of bytes).object) (step_of bytes))
    ∷ (4, is_descriptor (step_of bytes).descriptor)
    ∷ (1, is_sheet sheet)
    ∷ (2, sheet_passes (is_made (counts_of ω)) (sheet_of sheet))
    ∷ (3, sheet_passes (is_known (counts_of ω)) (sheet_of sheet))
    ∷ []

unfoldable pub keys_bytes : List PropertyKey → List ℕ
keys_bytes [] = []
keys_bytes (k ∷ ks) = value_bytes (key_value k) ++ keys_bytes ks

-- refusal 11: the output holds 9 bytes for each key, or all of a page
abbrev pub output_holds : Result → List ℕ → Bool
output_holds (value v) output = true
output_holds (descriptor p) output = true
output_holds absent output = true
output_holds (keys ks) output = leb (value_size * length ks) (length output)
output_holds (page text) output = leb (length text) (length output)

-- the keys or the page stand at the output's start; the bytes after them stay
abbrev pub output_after : Result → List ℕ → List ℕ
output_after (value v) output = output
output_after (descriptor p) output = output
output_after absent output = output
output_after (keys ks) output = keys_bytes ks ++ drop (value_size * length ks) output
output_after (page text) output = text ++ drop (length text) output

-- the same of every ending: only a result writes
abbrev pub output_after_ending : Ending → List ℕ → List ℕ
output_after_ending (refused n) output = output
output_after_ending (result r) output = output_after r output
output_after_ending (type_error n) output = output
output_after_ending (thrown v) output = output

abbrev pub refusing : ℕ → World → List ℕ → Effect
refusing n ω output = record { response = refusal n; world = ω; output = output }

-- the answers used and the calls made, from what is left of them
abbrev pub responding : Ending → List Answer → State → Response
responding e answers s = record { ending = e; answers = length answers - length s.answers; calls = maximum_calls - s.calls }

abbrev pub with_store : World → Store → World
with_store ω σ = record { store = σ; strings = ω.strings }

-- a result, unless the output cannot hold its keys
abbrev pub completed : World → List Answer → List ℕ → Store → Result → State → Bool → Effect
completed ω answers output σ r s false = refusing 11 ω output
completed ω answers output σ r s true = record {
  response = responding (result r) answers s;
  world = with_store ω σ;
  output = output_after r output;
}

-- a refusal brings back the store from before; any other end leaves the store that the run left
abbrev pub ended_with : World → List Answer → List ℕ → Store → Out Result → Effect
ended_with ω answers output σ (failed (Refused n) s) = refusing n ω output
ended_with ω answers output σ (failed (TypeError n) s) = record { response = responding (type_error n) answers s; world = with_store ω σ; output = output }
ended_with ω answers output σ (failed (Thrown v) s) = record { response = responding (thrown v) answers s; world = with_store ω σ; output = output }
ended_with ω answers output σ (done r s) = completed ω answers output σ r s (output_holds r output)

-- the answers that a run has not read where it ended; a run that is refused has not ended
abbrev pub unread : Out Result → List Answer
unread (failed (Refused n) s) = []
unread (failed (TypeError n) s) = s.answers
unread (failed (Thrown v) s) = s.answers
unread (done r s) = s.answers

-- refusal 13, before 11: answers are unread
abbrev pub refusing_unread : World → List ℕ → List Answer → Effect → Effect
refusing_unread ω output [] e = e
refusing_unread ω output (a ∷ rest) e = refusing 13 ω output

abbrev pub ended : World → List Answer → List ℕ → Ran Result → Effect
ended ω answers output x = refusing_unread ω output (unread x.0) (ended_with ω answers output x.1 x.0)

-- the run of a step whose records passed their tests
unfoldable pub ran : World → List ℕ → List ℕ → Ran Result
ran ω bytes sheet = (perform maximum_calls (context_of ω) (asked bytes)).run (state (sheet_of sheet) maximum_calls)

-- the same step with another allowance of properties, other answers and another budget of calls
abbrev pub run_with : World → List ℕ → ℕ → List Answer → ℕ → Ran Result
run_with ω bytes allowance answers calls = (perform calls (record { store = ω.store; strings = ω.strings; allowance = allowance }) (asked bytes)).run (state answers calls)

-- the calls that a run made of its budget
abbrev pub calls_made : ℕ → Out Result → ℕ
calls_made budget (failed f s) = budget - s.calls
calls_made budget (done r s) = budget - s.calls

abbrev pub tested : World → List Answer → List ℕ → Ran Result → Option ℕ → Effect
tested ω answers output run (Some n) = refusing n ω output
tested ω answers output run None = ended ω answers output run

unfoldable pub step : World → List ℕ → List ℕ → List ℕ → Effect
step ω bytes sheet output = tested ω (sheet_of sheet) output (ran ω bytes sheet) (first_failing (record_tests ω bytes sheet))
