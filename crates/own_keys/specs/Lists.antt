-- Key lists of a sheet, and when they can be loaded. Assumes nothing.
use Rattle.std.specs.Prelude.{ℕ, ◌+◌, ◌*◌, ◌≤◌, ◌≡◌, Bool, true, ◌&&◌, List, [], ◌∷◌, leb, length, Result, Ok, Err}
use Rattle.value.specs.declared.PropertyKey.{PropertyKey}
use Rattle.internal_methods.specs.declared.Failure.{Failure}
use Rattle.internal_methods.specs.Monad.{Answer, Out, failed, done}
use Rattle.internal_methods.specs.Monad as answer
use Rattle.internal_methods.specs.Answers.{keys_of}
use Rattle.record.specs.Step.{is_some}
use Rattle.record.specs.Sheet.{values_at, values_pass}
use Rattle.key_lists.specs.Keys.{keys_held, is_bounded_key}
use Rattle.calls.specs.declared.progress.Progress.{Progress}
use Rattle.calls.specs.Outs.{state_of}
use Rattle.own_keys.specs.declared.loading.Answered.{Answered}

-- the keys of a list of the sheet
abbrev pub answered_keys : List ℕ → Answered → List PropertyKey
answered_keys sheet a = keys_held (keys_of (values_at sheet a.first a.count))

-- its values all are keys, with numbers below 256
pub record LoadableAt (sheet : List ℕ) (a : Answered) : Type 0 where
  pub within : a.first + 9 * a.count ≤ length sheet
  pub few : a.count ≤ 256
  pub all-keys : is_some (keys_of (values_at sheet a.first a.count)) ≡ true
  pub known : values_pass is_bounded_key (values_at sheet a.first a.count) ≡ true

-- a key list has at most 256 values, and each is one that there can be
abbrev pub is_list_fit : Answer → Bool
is_list_fit (answer.value v) = true
is_list_fit (answer.descriptor d) = true
is_list_fit (answer.keys vs) = leb (length vs) 256 && values_pass is_bounded_key vs
is_list_fit (answer.throw v) = true

unfoldable pub are_lists_fit : List Answer → Bool
are_lists_fit [] = true
are_lists_fit (a ∷ rest) = is_list_fit a && are_lists_fit rest

-- what the code's answer stands for
abbrev pub out_answered : List ℕ → Result Answered Failure → Progress → Out (List PropertyKey)
out_answered sheet (Err f) s = failed f (state_of sheet s)
out_answered sheet (Ok a) s = done (answered_keys sheet a) (state_of sheet s)
