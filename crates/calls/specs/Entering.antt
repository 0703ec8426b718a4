-- How a call begins: past each proxy without its trap, at the methods of an object's kind. Assumes nothing.
use Rattle.std.specs.Prelude.{ℕ, zero, suc, ◌<◌, ◌≡◌, true, false, Option, None, Some}
use Rattle.value.specs.declared.Value.TheVariants.{Undefined}
use Rattle.store.specs.declared.OrdinaryObject.{OrdinaryObject}
use Rattle.store.specs.declared.Object.{Object}
use Rattle.store.specs.declared.Object.TheVariants as object
use Rattle.store.specs.Store.{Store, lookup}
use Rattle.internal_methods.specs.declared.Failure.TheVariants.{Refused}
use Rattle.internal_methods.specs.Monad.{M, pure, fails, when◌then◌else◌, dispatch}
use Rattle.internal_methods.specs.Proxy.{has_trap}
use Rattle.calls.specs.declared.Entered.{Entered}
use Rattle.calls.specs.declared.Entered.TheVariants.{Ordinary, Proxy}

-- the parts of an ordinary object; another has none
abbrev pub ordinary_in : Option Object → OrdinaryObject
ordinary_in None = record { prototype = Undefined; extensible = false }
ordinary_in (Some (object.Ordinary r)) = r
ordinary_in (Some (object.Proxy p)) = record { prototype = Undefined; extensible = false }

-- the parts of the ordinary object of a number
abbrev pub ordinary : Store → ℕ → OrdinaryObject
ordinary σ o = ordinary_in (lookup σ o)

-- where a call arrives from o, at most so many calls deep: an ordinary object, or a proxy with the trap; step 6 of each of 10.5 hands it on
unfoldable pub entering : ℕ → Store → ℕ → ℕ → M Entered
entering trap σ zero o = fails (Refused 10)
entering trap σ (suc n) o =
    dispatch σ o (λ r. pure (Ordinary o n)) (λ p. when has_trap p trap then pure (Proxy p n) else entering trap σ n p.target)

-- what is known of the place: it is deeper, and its object is of that kind
abbrev pub IsEntered : ℕ → Store → ℕ → Entered → Type 0
IsEntered trap σ depth (Ordinary o n) = (n < depth) × (lookup σ o ≡ Some (object.Ordinary (ordinary σ o)))
IsEntered trap σ depth (Proxy p n) = (n < depth) × (has_trap p trap ≡ true)
