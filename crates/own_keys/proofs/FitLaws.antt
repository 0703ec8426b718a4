-- The lists that are left stay fit. Assumes nothing.
use mathlib.Core.Path.{◌≡◌, sym}
use mathlib.Core.Bool.{true}
use mathlib.Core.List.{List}
use Rattle.value.proofs.Bools.{and-true}
use Rattle.internal_methods.specs.Monad.{Answer, State, done, M}
use Rattle.internal_methods.proofs.Longer.{Suffix, same, more, Longer}
use Rattle.own_keys.specs.Lists.{is_list_fit, are_lists_fit}

fit-suffix : {a b : List Answer} → Suffix a b → are_lists_fit b ≡ true → are_lists_fit a ≡ true
unfolding are_lists_fit
fit-suffix same h = h
fit-suffix (more {x = x} {b = b} s) h = fit-suffix s (and-true (is_list_fit x) (are_lists_fit b) h).1

-- after a method
pub still_fit : {A : Type 0} {m : M A} {s t : State} {a : A} → Longer m → done a t ≡ m.run s → are_lists_fit s.answers ≡ true → are_lists_fit t.answers ≡ true
still_fit {s = s} l e h = fit-suffix (rw (sym e) at (l.shrinks s)) h
