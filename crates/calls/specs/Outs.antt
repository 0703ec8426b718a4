-- What the code's answers stand for in the definitions. Assumes nothing.
use Rattle.std.specs.Prelude.{ℕ, ◌≡◌, Bool, List, Result, Ok, Err}
use Rattle.text.specs.Table.{strings_of}
use Rattle.store.specs.Store.{Store}
use Rattle.store.specs.Words.{store_of}
use Rattle.store_write.specs.Write.{applied, FitsIn}
use Rattle.internal_methods.specs.declared.Failure.{Failure}
use Rattle.internal_methods.specs.Monad.{State, state, Out, failed, done}
use Rattle.internal_methods.specs.Methods.{Context}
use Rattle.sheet.specs.Next.{answers_from}
use Rattle.calls.specs.declared.progress.Progress.{Progress}
use Rattle.calls.specs.declared.Run.{Run}
use Rattle.calls.specs.declared.written.Written.{Written}

-- what methods read, from the store's words and the string table's cells
abbrev pub context : List ℕ → List ℕ → ℕ → Context
context words cells allowance = record { store = store_of words; strings = strings_of cells; allowance = allowance }

abbrev pub context_of : Run → Context
context_of run = context run.store.words.now run.strings.now run.allowance

-- the answers still to come on the sheet, and the calls that may still begin
abbrev pub state_of : List ℕ → Progress → State
state_of sheet s = state (answers_from sheet s.at s.left) s.calls

-- how a method ended, and how far the run is then
module _ {A : Type 0} where
  abbrev pub out : List ℕ → Result A Failure → Progress → Out A
  out sheet (Err f) s = failed f (state_of sheet s)
  out sheet (Ok x) s = done x (state_of sheet s)

-- a write stands for the store after it
abbrev pub out_write : List ℕ → Store → Result Written Failure → Progress → Out (Bool × Store)
out_write sheet σ (Err f) s = failed f (state_of sheet s)
out_write sheet σ (Ok w) s = done (w.accepted, applied w.write σ) (state_of sheet s)

-- a write that is done is one that the words can take
abbrev pub Fitting : List ℕ → Result Written Failure → Type 0
Fitting words (Err f) = Unit {0}
Fitting words (Ok w) = FitsIn w.write words

-- the same of an ordinary object's write
pub record Writes (words : List ℕ) (r : Written) (expected : Bool × Store) : Type 0 where
  pub tells : (r.accepted, applied r.write (store_of words)) ≡ expected
  pub fits : FitsIn r.write words
