-- Key lists by the place where their keys stand. Assumes nothing.
use Rattle.std.specs.Prelude.{ℕ, List, Result, Ok, Err}
use Rattle.value.specs.declared.PropertyKey.{PropertyKey}
use Rattle.text.specs.Strings.{Strings}
use Rattle.store.specs.Store.{Store}
use Rattle.store.specs.OwnKeys.{ordinary_own_property_keys}
use Rattle.internal_methods.specs.declared.Failure.{Failure}
use Rattle.internal_methods.specs.Monad.{Out, failed, done}
use Rattle.calls.specs.declared.progress.Progress.{Progress}
use Rattle.calls.specs.Outs.{state_of}
use Rattle.own_keys.specs.Lists.{answered_keys, LoadableAt}
use Rattle.own_keys.specs.declared.loading.KeyList.{KeyList}
use Rattle.own_keys.specs.declared.loading.KeyList.TheVariants.{Answered, Own}

abbrev pub listed_keys : List ℕ → Strings → Store → KeyList → List PropertyKey
listed_keys sheet strings σ (Answered a) = answered_keys sheet a
listed_keys sheet strings σ (Own o) = ordinary_own_property_keys strings σ o

abbrev pub Loadable : List ℕ → KeyList → Type 0
Loadable sheet (Answered a) = LoadableAt sheet a
Loadable sheet (Own o) = Unit {0}

-- what the code's answer stands for
abbrev pub out_keys : List ℕ → Strings → Store → Result KeyList Failure → Progress → Out (List PropertyKey)
out_keys sheet strings σ (Err f) s = failed f (state_of sheet s)
out_keys sheet strings σ (Ok list) s = done (listed_keys sheet strings σ list) (state_of sheet s)
