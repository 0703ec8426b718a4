-- An ordinary object tells the property that the store has. Assumes nothing.
use Rattle.std.specs.Prelude.{Option, None, Some}
use Prim.Native.Nat.{ℕ, zero, suc}
use mathlib.Core.Path.{◌≡◌}
use mathlib.Core.Bool.{false≢true}
use mathlib.Core.List.{List}
use Rattle.value.specs.declared.PropertyKey.{PropertyKey}
use Rattle.store.specs.declared.OrdinaryObject.{OrdinaryObject}
use Rattle.store.specs.declared.ProxyObject.{ProxyObject}
use Rattle.store.specs.declared.Object.{Object}
use Rattle.store.specs.declared.Object.TheVariants as object
use Rattle.store.specs.Store.{lookup, own}
use Rattle.internal_methods.specs.Monad.{Answer, State, done, pure, fails, next, ◌>>=◌, counted, tick, dispatched, dispatch}
use Rattle.internal_methods.specs.Methods.{Context}
use Rattle.internal_methods.specs.Ordinary.{ordinary_get_own_property}
use Rattle.internal_methods.specs.Proxy.{proxy_get_own_property}
use Rattle.internal_methods.specs.Internal.{methods}
use Rattle.calls.specs.Entering.{ordinary}
use Rattle.property.specs.declared.Property.{Property}

module _ (c : Context) (o : ℕ) (k : PropertyKey) (found : lookup c.store o ≡ Some (object.Ordinary (ordinary c.store o))) (p : Option Property) (t : State) where
  counting : (n : ℕ) (a : List Answer) (calls : ℕ)
      → done p t ≡ next (λ _. dispatched (lookup c.store o) (λ (r : OrdinaryObject). pure (ordinary_get_own_property c.store o k)) (λ (q : ProxyObject). proxy_get_own_property (methods n c) q k)) (counted a calls)
      → own c.store o k ≡ p
  unfolding dispatched pure fails next ◌>>=◌
  counting n a zero e = absurd (false≢true cc)
  counting n a (suc m) e = by_object (lookup c.store o) found e
    where
      by_object : (x : Option Object) → x ≡ Some (object.Ordinary (ordinary c.store o))
          → done p t ≡ (dispatched x (λ (r : OrdinaryObject). pure (ordinary_get_own_property c.store o k)) (λ (q : ProxyObject). proxy_get_own_property (methods n c) q k)).run (record { answers = a; calls = m })
          → own c.store o k ≡ p
      by_object None h e = absurd (false≢true cc)
      by_object (Some (object.Ordinary r)) h e = cc
      by_object (Some (object.Proxy q)) h e = absurd (false≢true cc)

  pub ordinary_own : (depth : ℕ) (s : State) → done p t ≡ ((methods depth c).get_own_property o k).run s → own c.store o k ≡ p
  unfolding methods dispatch tick fails next ◌>>=◌
  ordinary_own zero s e = absurd (false≢true cc)
  ordinary_own (suc n) s e = counting n s.answers s.calls e
