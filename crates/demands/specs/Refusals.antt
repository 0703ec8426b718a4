-- Demand 1: which calls are refused, with which number, and what a call may change. Assumes nothing.
use Rattle.std.specs.Prelude.{ℕ, suc, ◌+◌, ◌≤◌, ◌<◌, ◌≡◌, ◌↔◌, true, false, List, [], ◌∷◌, ◌++◌, length, Option, None, Some}
use Rattle.value.specs.declared.Value.{Value}
use Rattle.text.specs.Strings.{number_of, maximum_length, maximum_strings}
use Rattle.store.specs.declared.Object.{Object}
use Rattle.store.specs.Store.{Store, World, maximum_objects, maximum_properties}
use Rattle.internal_methods.specs.declared.Failure.TheVariants.{Refused, TypeError, Thrown}
use Rattle.internal_methods.specs.Monad.{Answer, throw, State, state, Out, failed, done}
use Rattle.internal_methods.specs.Readable.{Reading, is_unreadable}
use Rattle.record.specs.Bytes.{byte_at}
use Rattle.record.specs.Sheet.{sheet_of}
use Rattle.record.specs.Tests.{first_failing}
use Rattle.steps.specs.Operation.{Level, Operation, set_integrity_level, makes_object, asked}
use Rattle.steps.specs.Perform.{Result, boolean, maximum_calls, perform}
use Rattle.steps.specs.Response.{Ending, refused, result, type_error, thrown}
use Rattle.steps.specs.Step.{context_of, record_tests, output_holds, refusing, ran, run_with, calls_made, step}
use Rattle.steps.specs.StringEntry.{enter_string}

-- a result, a TypeError by one of the 32 messages, or a throw
pub data Accepted : Ending → Type 0 where
  by_result : (r : Result) → Accepted (result r)
  by-type_error : (n : ℕ) → 1 ≤ n → n ≤ 32 → Accepted (type_error n)
  by-throw : (v : Value) → Accepted (thrown v)

-- how a run ends, and the answers left then
abbrev pub ending_of : Out Result → Ending
ending_of (failed (Refused n) s) = refused n
ending_of (failed (TypeError n) s) = type_error n
ending_of (failed (Thrown v) s) = thrown v
ending_of (done r s) = result r

abbrev pub left_in : Out Result → List Answer
left_in (failed f s) = s.answers
left_in (done r s) = s.answers

-- the same end, with these answers left
abbrev pub leaving : List Answer → Out Result → Out Result
leaving rest (failed f s) = failed f (state rest s.calls)
leaving rest (done r s) = done r (state rest s.calls)

-- how many numbers have a live object
unfoldable pub occupied : List (Option Object) → ℕ
occupied [] = 0
occupied (None ∷ xs) = occupied xs
occupied (Some x ∷ xs) = suc (occupied xs)

-- the refusals of docs/REFERENCE.md, by their numbers: each condition says why
pub data Refusal (ω : World) (bytes sheet output : List ℕ) : ℕ → Type 0 where
  -- 1 to 3, 14 and 4 over the step, then 1 to 3 over the sheet: the first test that fails
  inadmissible : {n : ℕ} → first_failing (record_tests ω bytes sheet) ≡ Some n → Refusal ω bytes sheet output n
  -- 7: an object is to be made, and 32 are live
  crowded : first_failing (record_tests ω bytes sheet) ≡ None → makes_object (asked bytes) ≡ true → maximum_objects ≤ occupied ω.store.objects → Refusal ω bytes sheet output 7
  -- 7: 256 properties are there, and with room for one more the same step ends in true, with one property more
  full : {τ : Store} {s : State} → first_failing (record_tests ω bytes sheet) ≡ None → maximum_properties ≤ length ω.store.properties
      → run_with ω bytes (suc (length ω.store.properties)) (sheet_of sheet) maximum_calls ≡ (done (boolean true) s, τ)
      → length τ.properties ≡ suc (length ω.store.properties) → Refusal ω bytes sheet output 7
  -- 8: there is no next answer; all were taken
  spent : {s : State} → first_failing (record_tests ω bytes sheet) ≡ None → (ran ω bytes sheet).0 ≡ failed (Refused 8) s → s.answers ≡ [] → Refusal ω bytes sheet output 8
  -- 9: the last answer taken cannot be read as what was asked for; with a throw in its place the same step ends in that throw, as many answers used
  unreadable : {rest : List Answer} {calls : ℕ} (used : List Answer) (a : Answer) (r : Reading) → first_failing (record_tests ω bytes sheet) ≡ None → sheet_of sheet ≡ used ++ (a ∷ rest)
      → is_unreadable r a ≡ true → (ran ω bytes sheet).0 ≡ failed (Refused 9) (state rest calls)
      → ((v : Value) → (run_with ω bytes maximum_properties (used ++ (throw v ∷ rest)) maximum_calls).0 ≡ failed (Thrown v) (state rest calls)) → Refusal ω bytes sheet output 9
  -- 10: no call is left, and with any larger budget the same step makes more than 2,048
  exhausted : first_failing (record_tests ω bytes sheet) ≡ None → calls_made maximum_calls (ran ω bytes sheet).0 ≡ maximum_calls
      → ((more : ℕ) → 0 < more → maximum_calls < calls_made (maximum_calls + more) (run_with ω bytes maximum_properties (sheet_of sheet) (maximum_calls + more)).0) → Refusal ω bytes sheet output 10
  -- 13: the run ends, and answers remain unread: whatever stands in their place, or nothing, the same step ends the same
  unread : (used : List Answer) (a : Answer) (rest : List Answer) → first_failing (record_tests ω bytes sheet) ≡ None → sheet_of sheet ≡ used ++ (a ∷ rest)
      → Accepted (ending_of (ran ω bytes sheet).0)
      → ((others : List Answer) → (run_with ω bytes maximum_properties (used ++ others) maximum_calls).0 ≡ leaving others (ran ω bytes sheet).0) → Refusal ω bytes sheet output 13
  -- 11: every answer was read, the keys take 9 bytes each, and the output has fewer
  short : {r : Result} {s : State} → first_failing (record_tests ω bytes sheet) ≡ None → (ran ω bytes sheet).0 ≡ done r s → s.answers ≡ [] → output_holds r output ≡ false
      → Refusal ω bytes sheet output 11

-- what changes the store: a result, or a TypeError or a throw of step 18, which wrote before it
pub data MayWrite (asks : Operation) : Ending → Type 0 where
  by_result : (r : Result) → MayWrite asks (result r)
  by-type_error : {o : ℕ} {level : Level} (n : ℕ) → asks ≡ set_integrity_level o level → MayWrite asks (type_error n)
  by-throw : {o : ℕ} {level : Level} (v : Value) → asks ≡ set_integrity_level o level → MayWrite asks (thrown v)

-- unless the first is so, the second is
pub data Unless (Q P : Type 0) : Type 0 where
  is : Q → Unless Q P
  otherwise : P → Unless Q P

-- the first list is what is left of the second, once some from its front were taken
pub record LeftOf (rest answers : List Answer) : Type 0 where
  pub taken : List Answer
  pub splits : taken ++ rest ≡ answers

-- what demand 1 says of one step
pub record StepDecided (ω : World) (bytes sheet output : List ℕ) : Type 0 where
  -- the refusal is n exactly if the condition numbered n holds and none before it does
  pub refuses : (n : ℕ) → ((step ω bytes sheet output).response.ending ≡ refused n) ↔ Refusal ω bytes sheet output n
  -- any other step is accepted
  pub accepts : ((n : ℕ) → Refusal ω bytes sheet output n → ⊥) → Accepted (step ω bytes sheet output).response.ending
  -- a refusal reports zeros, and leaves store, strings and output
  pub untouched : (n : ℕ) → (step ω bytes sheet output).response.ending ≡ refused n → step ω bytes sheet output ≡ refusing n ω output
  -- only a result, or a TypeError or a throw of step 18, changes the store
  pub unchanged : Unless (MayWrite (asked bytes) (step ω bytes sheet output).response.ending) ((step ω bytes sheet output).world ≡ ω)
  -- only a result changes the output
  pub unwritten : Unless ((r : Result) × ((step ω bytes sheet output).response.ending ≡ result r)) ((step ω bytes sheet output).output ≡ output)
  -- no step changes the strings
  pub strings : (step ω bytes sheet output).world.strings ≡ ω.strings
  -- an accepted step has read every answer, and reports as many as the sheet counts in its first byte
  pub consumes : Accepted (step ω bytes sheet output).response.ending → (left_in (ran ω bytes sheet).0 ≡ []) × ((step ω bytes sheet output).response.answers ≡ byte_at sheet 0)
  -- the sheet is spent only once all of it is read: with a longer one, whatever comes, all these answers are used
  pub reads : {s : State} → (ran ω bytes sheet).0 ≡ failed (Refused 8) s → first_failing (record_tests ω bytes sheet) ≡ None → (more : List Answer)
      → LeftOf (left_in ((perform maximum_calls (context_of ω) (asked bytes)).run (state (sheet_of sheet ++ more) maximum_calls)).0) more
  -- the bound on depth never decides: the 2,048 calls do
  pub depth : first_failing (record_tests ω bytes sheet) ≡ None → (n : ℕ) → maximum_calls ≤ n
      → (perform n (context_of ω) (asked bytes)).run (state (sheet_of sheet) maximum_calls) ≡ ran ω bytes sheet

-- the conditions under which a string is not entered
pub data EntryRefusal (ω : World) (units : List ℕ) : ℕ → Type 0 where
  -- 3: it exceeds 32 code units
  long : maximum_length < length units → EntryRefusal ω units 3
  -- 7: it would be the 257th string
  full : length units ≤ maximum_length → number_of ω.strings units ≡ None → maximum_strings ≤ length ω.strings → EntryRefusal ω units 7

-- what demand 1 says of entering a string
pub record EntryDecided (ω : World) (units : List ℕ) : Type 0 where
  pub refuses : (n : ℕ) → ((enter_string ω units).response.ending ≡ refused n) ↔ EntryRefusal ω units n
  pub accepts : ((n : ℕ) → EntryRefusal ω units n → ⊥) → Accepted (enter_string ω units).response.ending
  pub untouched : (n : ℕ) → (enter_string ω units).response.ending ≡ refused n → enter_string ω units ≡ refusing n ω []
  -- entering a string leaves the store
  pub store : (enter_string ω units).world.store ≡ ω.store
