-- How a sequence goes on, a step of its definition at a time, for `grind`. Assumes nothing.
use Prim.Native.Nat.{ℕ}
use mathlib.Core.Path.{◌≡◌, refl}
use mathlib.Core.Bool.{true, false}
use mathlib.Core.List.{List}
use Rattle.store.specs.Store.{Store}
use Rattle.internal_methods.specs.declared.Failure.{Failure}
use Rattle.internal_methods.specs.declared.Failure.TheVariants.{TypeError}
use Rattle.internal_methods.specs.Monad.{State, M, failed, done}
use Rattle.store_write.specs.declared.write.Write.{Write}
use Rattle.store_write.specs.Write.{written_to, FitsIn, Becomes, Committed}
use Rattle.store_write.proofs.CommittedLaws.{committed-none, committed-one, committed-then}
use Rattle.steps.specs.Sequence.{Sequence, pure, fails, reads, writes, written, next, ◌>>=◌, when◌then◌else◌, throw_if}

module _ {A B : Type 0} where
  pub bind_run : (m : Sequence A) (k : A → Sequence B) (σ : Store) (s : State) → (m >>= k).run σ s ≡ next k (m.run σ s).0 (m.run σ s).1
  unfolding ◌>>=◌
  bind_run m k σ s = refl

  pub next_failed : (k : A → Sequence B) (f : Failure) (s : State) (σ : Store) → next k (failed f s) σ ≡ (failed f s, σ)
  unfolding next
  next_failed k f s σ = refl

  pub next_done : (k : A → Sequence B) (a : A) (s : State) (σ : Store) → next k (done a s) σ ≡ (k a).run σ s
  unfolding next
  next_done k a s σ = refl

module _ {A : Type 0} where
  pub pure_run : (a : A) (σ : Store) (s : State) → (pure a).run σ s ≡ (done a s, σ)
  unfolding pure
  pure_run a σ s = refl

  pub fails_run : (f : Failure) (σ : Store) (s : State) → (fails {A = A} f).run σ s ≡ (failed f s, σ)
  unfolding fails
  fails_run f σ s = refl

  pub reads_run : (m : Store → M A) (σ : Store) (s : State) → (reads m).run σ s ≡ ((m σ).run s, σ)
  unfolding reads
  reads_run m σ s = refl

  pub writes_run : (m : Store → M (A × Store)) (σ : Store) (s : State) → (writes m).run σ s ≡ written σ ((m σ).run s)
  unfolding writes
  writes_run m σ s = refl

  pub when_true : (m k : Sequence A) → (when true then m else k) ≡ m
  unfolding when◌then◌else◌
  when_true m k = refl

  pub when_false : (m k : Sequence A) → (when false then m else k) ≡ k
  unfolding when◌then◌else◌
  when_false m k = refl

pub throw_if_true : (n : ℕ) (σ : Store) (s : State) → (throw_if n true).run σ s ≡ (failed (TypeError n) s, σ)
unfolding throw_if fails
throw_if_true n σ s = refl

pub throw_if_false : (n : ℕ) (σ : Store) (s : State) → (throw_if n false).run σ s ≡ (done tt s, σ)
unfolding throw_if pure
throw_if_false n σ s = refl

pub ruleset steps = (bind_run, next_failed, next_done, pure_run, fails_run, reads_run, writes_run, when_true, when_false, throw_if_true, throw_if_false)

-- a write, and then others
pub committed_more : {before between after : List ℕ} {w : Write} {σ : Store} → FitsIn w before → Becomes between (written_to w before) σ → Committed between after → Committed before after
committed_more f b c = committed-then (committed-one f b) c

pub ruleset committed = (committed-none, committed-one, committed-then, committed_more)
