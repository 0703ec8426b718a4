-- What writes as it goes: it ends as a method does, and what it wrote before it failed stays written. Assumes nothing.
use Rattle.std.specs.Prelude.{ℕ, Bool, true, false, List, [], ◌∷◌}
use Rattle.store.specs.Store.{Store}
use Rattle.internal_methods.specs.declared.Failure.{Failure}
use Rattle.internal_methods.specs.declared.Failure.TheVariants.{TypeError}
use Rattle.internal_methods.specs.Monad.{State, Out, failed, done, M}

-- how it ended, and the store after it
abbrev pub Ran : Type 0 → Type 0
Ran A = Out A × Store

pub record Sequence (A : Type 0) : Type 0 where
  pub run : Store → State → Ran A

-- a method leaves the store, unless it is done
abbrev pub written : {A : Type 0} → Store → Out (A × Store) → Ran A
written σ (failed f s) = (failed f s, σ)
written σ (done a s) = (done a.0 s, a.1)

module _ {A : Type 0} where
  unfoldable pub pure : A → Sequence A
  pure a = record { run = λ σ s. (done a s, σ) }

  unfoldable pub fails : Failure → Sequence A
  fails f = record { run = λ σ s. (failed f s, σ) }

  -- a method that reads, over the store as it is then
  unfoldable pub reads : (Store → M A) → Sequence A
  reads m = record { run = λ σ s. ((m σ).run s, σ) }

  -- a method that writes
  unfoldable pub writes : (Store → M (A × Store)) → Sequence A
  writes m = record { run = λ σ s. written σ ((m σ).run s) }

  infixr 5 when◌then◌else◌
  unfoldable pub when◌then◌else◌ : Bool → Sequence A → Sequence A → Sequence A
  when◌then◌else◌ true m k = m
  when◌then◌else◌ false m k = k

module _ {A B : Type 0} where
  unfoldable pub next : (A → Sequence B) → Out A → Store → Ran B
  next k (failed f s) σ = (failed f s, σ)
  next k (done a s) σ = (k a).run σ s

  infixl 10 ◌>>=◌ ◌>>◌
  unfoldable pub ◌>>=◌ : Sequence A → (A → Sequence B) → Sequence B
  ◌>>=◌ m k = record { run = λ σ s. next k (m.run σ s).0 (m.run σ s).1 }

  abbrev pub ◌>>◌ : Sequence A → Sequence B → Sequence B
  ◌>>◌ m k = m >>= λ _. k

  abbrev pub giving : (A → B) → Sequence A → Sequence B
  giving f m = m >>= λ a. pure (f a)

-- 'If .., throw a TypeError exception.', with the message's number
unfoldable pub throw_if : ℕ → Bool → Sequence (Unit {0})
throw_if n true = fails (TypeError n)
throw_if n false = pure tt

-- 'For each element k of .., do'
unfoldable pub for_each : {A : Type 0} → (A → Sequence (Unit {0})) → List A → Sequence (Unit {0})
for_each turn [] = pure tt
for_each turn (k ∷ ks) = turn k >> for_each turn ks
