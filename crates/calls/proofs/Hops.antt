-- Where a call arrives, a hop at a time. Assumes nothing.
use Rattle.std.specs.Prelude.{Option, None, Some}
use Prim.Native.Nat.{ℕ, zero, suc, ◌-◌, ◌<◌, min}
use native.Mathlib.Omega.{arith}
use native.Mathlib.Numerals.{unary_clauses}
use mathlib.Core.Path.{◌≡◌, refl, sym, ap}
use mathlib.Core.Bool.{true, true≢false}
use mathlib.Core.List.{List}
use Rattle.store.specs.declared.Object.{Object}
use Rattle.store.specs.declared.Object.TheVariants as object
use Rattle.store.specs.Store.{Store, lookup}
use Rattle.internal_methods.specs.declared.Failure.TheVariants.{Refused}
use Rattle.internal_methods.specs.Monad.{Answer, state, failed, done, M, pure, fails, next, ◌>>=◌, ◌>>◌, throw_if, when◌then◌else◌, tick, dispatched, dispatch}
use Rattle.internal_methods.specs.Proxy.{has_trap}
use Rattle.store_read.specs.Answers.{is_ordinary}
use Rattle.calls.specs.declared.Entered.{Entered}
use Rattle.calls.specs.declared.Entered.TheVariants as entered
use Rattle.calls.specs.Entering.{ordinary_in, entering}
use Rattle.calls.proofs.Steps.{steps}

pub ordinary_found : (x : Option Object) → is_ordinary x ≡ true → x ≡ Some (object.Ordinary (ordinary_in x))
ordinary_found None e = absurd (true≢false (sym e))
ordinary_found (Some (object.Ordinary r)) e = refl
ordinary_found (Some (object.Proxy p)) e = absurd (true≢false (sym e))

-- `enter` and `go_down`, a hop at a time
module _ (trap : ℕ) (σ : Store) (n o : ℕ) where
  -- what becomes of a call at an object
  abbrev pub looked : Option Object → M Entered
  looked None = fails (Refused 2)
  looked (Some (object.Ordinary r)) = pure (entered.Ordinary o n)
  looked (Some (object.Proxy p)) = throw_if 1 p.revoked >> (when has_trap p trap then pure (entered.Proxy p n) else entering trap σ n p.target)

  looked_dispatched : (x : Option Object)
      → dispatched x (λ r. pure (entered.Ordinary o n)) (λ p. when has_trap p trap then pure (entered.Proxy p n) else entering trap σ n p.target) ≡ looked (x)
  unfolding dispatched
  looked_dispatched None = refl
  looked_dispatched (Some (object.Ordinary r)) = refl
  looked_dispatched (Some (object.Proxy p)) = refl

module _ (trap : ℕ) (σ : Store) (n o : ℕ) (a : List Answer) (calls : ℕ) where
  -- without a level, or without a call
  pub entering_ended : min n calls ≡ 0 → (entering trap σ n o).run (state a calls) ≡ failed (Refused 10) (state a calls)
  unfolding entering dispatch tick fails next ◌>>=◌
  entering_ended e = go n calls e
    where
      go : (n calls : ℕ) → min n calls ≡ 0 → (entering trap σ n o).run (state a calls) ≡ failed (Refused 10) (state a calls)
      go zero m e = refl
      go (suc n) zero e = refl
      go (suc n) (suc m) e = absurd (omega (arith, e))

  pub entering_more : 0 < n → 0 < calls → (entering trap σ n o).run (state a calls) ≡ (looked trap σ (n - 1) o ((lookup σ o))).run (state a (calls - 1))
  unfolding entering dispatch tick next ◌>>=◌
  entering_more h k = go n calls h k
    where
      go : (n calls : ℕ) → 0 < n → 0 < calls → (entering trap σ n o).run (state a calls) ≡ (looked trap σ (n - 1) o ((lookup σ o))).run (state a (calls - 1))
      go zero m h k = absurd (omega (arith, h))
      go (suc n) zero h k = absurd (omega (arith, k))
      go (suc n) (suc m) h k = simp unary_clauses (ap (λ (k : M Entered). k.run (state a m)) (looked_dispatched trap σ n o (lookup σ o)))

  pub entering_ordinary : 0 < n → 0 < calls → is_ordinary (lookup σ o) ≡ true → (entering trap σ n o).run (state a calls) ≡ done (entered.Ordinary o (n - 1)) (state a (calls - 1))
  unfolding pure
  entering_ordinary h k e = rw (entering_more h k, ordinary_found (lookup σ o) e)

pub ruleset hops = (steps, ordinary_found, entering_ended, entering_more, entering_ordinary)
