-- What the code of an operation answers, and what it stands for in the definitions. Assumes nothing.
use Rattle.std.specs.Prelude.{ℕ, ◌≡◌, Bool, true, false, List, [], Result, Ok, Err}
use Rattle.store.specs.Store.{Store}
use Rattle.store_write.specs.Write.{applied, FitsIn}
use Rattle.internal_methods.specs.declared.Failure.{Failure}
use Rattle.internal_methods.specs.Monad.{failed, done}
use Rattle.calls.specs.declared.progress.Progress.{Progress}
use Rattle.calls.specs.Outs.{state_of}
use Rattle.steps.specs.declared.Completion.{Completion}
use Rattle.steps.specs.declared.Completion.TheVariants as completion
use Rattle.steps.specs.Sequence.{Ran}
use Rattle.steps.specs.Perform as result
use Rattle.reporting.specs.declared.Performed.{Performed}

-- the result that a completion stands for; a key list and a page have more than their lengths, and are not told this way
abbrev pub result_of : Completion → result.Result
result_of (completion.Value v) = result.value v
result_of (completion.Descriptor p) = result.descriptor p
result_of completion.Absent = result.absent
result_of (completion.Keys n) = result.keys []
result_of (completion.Page n) = result.page []

abbrev pub out_performed : List ℕ → Store → Result Performed Failure → Progress → Ran result.Result
out_performed sheet σ (Err f) s = (failed f (state_of sheet s), σ)
out_performed sheet σ (Ok p) s = (done (result_of p.completion) (state_of sheet s), applied p.write σ)

-- of an operation that writes nothing
abbrev pub out_completed : List ℕ → Store → Result Completion Failure → Progress → Ran result.Result
out_completed sheet σ (Err f) s = (failed f (state_of sheet s), σ)
out_completed sheet σ (Ok c) s = (done (result_of c) (state_of sheet s), σ)

-- a completion that is neither a key list nor a page
abbrev pub is_plain : Completion → Bool
is_plain (completion.Value v) = true
is_plain (completion.Descriptor p) = true
is_plain completion.Absent = true
is_plain (completion.Keys n) = false
is_plain (completion.Page n) = false

-- a write that is done is one that the words can take, and a completion tells all of its result
abbrev pub Taken : List ℕ → Result Performed Failure → Type 0
Taken words (Err f) = Unit {0}
Taken words (Ok p) = FitsIn p.write words × (is_plain p.completion ≡ true)

abbrev pub Plain : Result Completion Failure → Type 0
Plain (Err f) = Unit {0}
Plain (Ok c) = is_plain c ≡ true
