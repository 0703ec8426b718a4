-- What a method does over a step's answers and calls: it fails, or it is done with a result. Assumes nothing.
use Rattle.std.specs.Prelude.{ℕ, suc, zero, Bool, true, false, List, [], ◌∷◌, Option, None, Some}
use Rattle.value.specs.declared.Value.{Value}
use Rattle.property.specs.declared.DescriptorObject.{DescriptorObject}
use Rattle.store.specs.declared.OrdinaryObject.{OrdinaryObject}
use Rattle.store.specs.declared.ProxyObject.{ProxyObject}
use Rattle.store.specs.declared.Object.{Object}
use Rattle.store.specs.declared.Object.TheVariants.{Ordinary, Proxy}
use Rattle.store.specs.Store.{Store, lookup}
use Rattle.internal_methods.specs.declared.Failure.{Failure}
use Rattle.internal_methods.specs.declared.Failure.TheVariants.{Refused, TypeError, Thrown}

-- what a trap, a getter or a setter answers
pub data Answer : Type 0 where
  value : Value → Answer
  descriptor : DescriptorObject → Answer
  keys : List Value → Answer
  throw : Value → Answer

-- what a step still has: answers to come, and calls that may still begin
pub record State : Type 0 where
  pub answers : List Answer
  pub calls : ℕ

abbrev pub state : List Answer → ℕ → State
state a n = record { answers = a; calls = n }

pub data Out (A : Type 0) : Type 0 where
  failed : Failure → State → Out A
  done : A → State → Out A

pub record M (A : Type 0) : Type 0 where
  pub run : State → Out A

module _ {A : Type 0} where
  unfoldable pub pure : A → M A
  pure a = record { run = λ s. done a s }

  unfoldable pub fails : Failure → M A
  fails f = record { run = λ s. failed f s }

module _ {A B : Type 0} where
  unfoldable pub next : (A → M B) → Out A → Out B
  next k (failed f s) = failed f s
  next k (done a s) = (k a).run s

  infixl 10 ◌>>=◌ ◌>>◌
  unfoldable pub ◌>>=◌ : M A → (A → M B) → M B
  ◌>>=◌ m k = record { run = λ s. next k (m.run s) }

  abbrev pub ◌>>◌ : M A → M B → M B
  ◌>>◌ m k = m >>= λ _. k

-- 'If .., throw a TypeError exception.', with the message's number
unfoldable pub throw_if : ℕ → Bool → M (Unit {0})
throw_if n true = fails (TypeError n)
throw_if n false = pure tt

-- the same, where a test gives the message's number
unfoldable pub throw_any : Option ℕ → M (Unit {0})
throw_any None = pure tt
throw_any (Some n) = fails (TypeError n)

abbrev pub answered : ℕ → List Answer → Out Answer
answered n [] = failed (Refused 8) (state [] n)
answered n (value v ∷ s) = done (value v) (state s n)
answered n (descriptor d ∷ s) = done (descriptor d) (state s n)
answered n (keys ks ∷ s) = done (keys ks) (state s n)
answered n (throw v ∷ s) = failed (Thrown v) (state s n)

-- 7.3.14 Call: a trap, getter or setter takes the step's next answer
unfoldable pub ask : M Answer
ask = record { run = λ s. answered s.calls s.answers }

abbrev pub counted : List Answer → ℕ → Out (Unit {0})
counted s zero = failed (Refused 10) (state s zero)
counted s (suc n) = done tt (state s n)

-- one call of an internal method begins
unfoldable pub tick : M (Unit {0})
tick = record { run = λ s. counted s.answers s.calls }

module _ {A : Type 0} where
  infixr 5 when◌then◌else◌
  unfoldable pub when◌then◌else◌ : Bool → M A → M A → M A
  when◌then◌else◌ true m k = m
  when◌then◌else◌ false m k = k

  unfoldable pub dispatched : Option Object → (OrdinaryObject → M A) → (ProxyObject → M A) → M A
  dispatched None f g = fails (Refused 2)
  dispatched (Some (Ordinary r)) f g = f r
  dispatched (Some (Proxy p)) f g = throw_if 1 p.revoked >> g p  -- 10.5.14 ValidateNonRevokedProxy

  -- the internal methods that o has: those of 10.1, or those of 10.5
  unfoldable pub dispatch : Store → ℕ → (OrdinaryObject → M A) → (ProxyObject → M A) → M A
  dispatch σ o f g = tick >> dispatched (lookup σ o) f g
