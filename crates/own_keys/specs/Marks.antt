-- The target's keys in words, and their marks. Assumes nothing.
use Rattle.std.specs.Prelude.{ℕ, List, Result, Ok, Err}
use Rattle.internal_methods.specs.declared.Failure.{Failure}
use Rattle.internal_methods.specs.Monad.{Out, failed, done}
use Rattle.internal_methods.specs.KeyList.{Sorted}
use Rattle.key_lists.specs.KeyWords.{sorted_from}
use Rattle.calls.specs.declared.progress.Progress.{Progress}
use Rattle.calls.specs.Outs.{state_of}

-- what the code's answer stands for, with the words of the keys and their marks
abbrev pub out_marks : List ℕ → List ℕ → List ℕ → Result (Unit {0}) Failure → Progress → Out Sorted
out_marks sheet keys marks (Err f) s = failed f (state_of sheet s)
out_marks sheet keys marks (Ok u) s = done (sorted_from keys marks) (state_of sheet s)
