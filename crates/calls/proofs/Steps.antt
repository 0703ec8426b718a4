-- How a method goes on, a step of its definition at a time, for `grind`. Assumes nothing.
use Rattle.std.specs.Prelude.{None, Some}
use Prim.Native.Nat.{ℕ}
use mathlib.Core.Path.{◌≡◌, refl}
use mathlib.Core.Bool.{true, false}
use Rattle.internal_methods.specs.declared.Failure.{Failure}
use Rattle.internal_methods.specs.declared.Failure.TheVariants.{TypeError}
use Rattle.internal_methods.specs.Monad.{State, M, failed, done, pure, fails, next, ◌>>=◌, throw_if, throw_any, when◌then◌else◌}

module _ {A B : Type 0} where
  pub bind_run : (m : M A) (k : A → M B) (s : State) → (m >>= k).run s ≡ next k (m.run s)
  unfolding ◌>>=◌
  bind_run m k s = refl

  pub next_failed : (k : A → M B) (f : Failure) (s : State) → next k (failed f s) ≡ failed f s
  unfolding next
  next_failed k f s = refl

  pub next_done : (k : A → M B) (a : A) (s : State) → next k (done a s) ≡ (k a).run s
  unfolding next
  next_done k a s = refl

module _ {A : Type 0} where
  pub pure_run : (a : A) (s : State) → (pure a).run s ≡ done a s
  unfolding pure
  pure_run a s = refl

  pub fails_run : (f : Failure) (s : State) → ◌≡◌ {A = _} ((fails {A = A} f).run s) (failed f s)
  unfolding fails
  fails_run f s = refl

  pub when_true : (m k : M A) → (when true then m else k) ≡ m
  unfolding when◌then◌else◌
  when_true m k = refl

  pub when_false : (m k : M A) → (when false then m else k) ≡ k
  unfolding when◌then◌else◌
  when_false m k = refl

pub throw_if_true : (n : ℕ) (s : State) → (throw_if n true).run s ≡ failed (TypeError n) s
unfolding throw_if fails
throw_if_true n s = refl

pub throw_if_false : (n : ℕ) (s : State) → (throw_if n false).run s ≡ done tt s
unfolding throw_if pure
throw_if_false n s = refl

pub throw_any_none : (s : State) → (throw_any None).run s ≡ done tt s
unfolding throw_any pure
throw_any_none s = refl

pub throw_any_some : (n : ℕ) (s : State) → (throw_any (Some n)).run s ≡ failed (TypeError n) s
unfolding throw_any fails
throw_any_some n s = refl

pub ruleset steps = (bind_run, next_failed, next_done, pure_run, fails_run, when_true, when_false, throw_if_true, throw_if_false, throw_any_none, throw_any_some)
