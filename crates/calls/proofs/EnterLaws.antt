-- What `enter` is to the definitions: each method goes on as its body does where the call arrives. Assumes nothing.
use Rattle.std.specs.Prelude.{Option, None, Some}
use Prim.Native.Nat.{ℕ, zero, suc}
use mathlib.Core.Path.{◌≡◌, refl, sym, ap}
use mathlib.Core.Bool.{Bool, true, false}
use mathlib.Core.List.{List}
use Rattle.value.specs.declared.Value.{Value}
use Rattle.value.specs.declared.PropertyKey.{PropertyKey}
use Rattle.property.specs.declared.PropertyDescriptor.{PropertyDescriptor}
use Rattle.store.specs.declared.OrdinaryObject.{OrdinaryObject}
use Rattle.store.specs.declared.ProxyObject.{ProxyObject}
use Rattle.store.specs.declared.Object.{Object}
use Rattle.store.specs.declared.Object.TheVariants as object
use Rattle.store.specs.Store.{Store, lookup}
use Rattle.store.specs.OwnKeys.{ordinary_own_property_keys}
use Rattle.internal_methods.specs.declared.Failure.TheVariants.{Refused}
use Rattle.internal_methods.specs.Monad.{Answer, State, failed, M, pure, fails, next, ◌>>=◌, ◌>>◌, throw_if, when◌then◌else◌, counted, tick, dispatched, dispatch}
use Rattle.internal_methods.specs.Methods.{Context}
use Rattle.internal_methods.specs.Ordinary.{ordinary_get_prototype_of, ordinary_set_prototype_of, ordinary_is_extensible, ordinary_prevent_extensions, ordinary_get_own_property, ordinary_define_own_property, ordinary_has_property, ordinary_get, ordinary_set, ordinary_delete}
use Rattle.internal_methods.specs.Proxy.{has_trap, proxy_get_prototype_of, proxy_set_prototype_of, proxy_is_extensible, proxy_prevent_extensions, proxy_get_own_property, proxy_define_own_property, proxy_has_property, proxy_get, proxy_set, proxy_delete, proxy_own_property_keys}
use Rattle.internal_methods.specs.Internal.{methods}
use Rattle.calls.specs.declared.Entered.{Entered}
use Rattle.calls.specs.declared.Entered.TheVariants as entered
use Rattle.calls.specs.Entering.{ordinary_in, ordinary, entering}

-- a method by its level, whose proxies without the trap call the level below on their target
module _ {A : Type 0} (σ : Store) (f : ℕ → ℕ → OrdinaryObject → M A) (g : ℕ → ProxyObject → M A) where
  -- how it goes on where it arrived
  abbrev pub arrived : Entered → M A
  arrived (entered.Ordinary o n) = f n o (ordinary σ o)
  arrived (entered.Proxy p n) = g n p

module _ {A : Type 0} (trap : ℕ) (σ : Store) (F : ℕ → ℕ → M A) (f : ℕ → ℕ → OrdinaryObject → M A) (g : ℕ → ProxyObject → M A)
    (level : (n o : ℕ) → F (suc n) o ≡ dispatch σ o (f n o) (g n))
    (hands : (n : ℕ) (p : ProxyObject) → has_trap p trap ≡ false → g n p ≡ F n p.target) where
  module _ (n o : ℕ) (below : (q : ℕ) (t : State) → (F n q).run t ≡ next (arrived σ f g) ((entering trap σ n q).run t)) where
    hops : (p : ProxyObject) (t : State) (revoked has : Bool) → has_trap p trap ≡ has
        → (throw_if 1 revoked >> g n p).run t ≡ next (arrived σ f g) ((throw_if 1 revoked >> (when has then pure (entered.Proxy p n) else entering trap σ n p.target)).run t)
    unfolding fails pure next throw_if when◌then◌else◌ ◌>>=◌
    hops p t true has h = refl
    hops p t false true h = refl
    hops p t false false h = rw (hands n p h) (below p.target t)

    step : (x : Option Object) (t : State) → lookup σ o ≡ x
        → (dispatched x (f n o) (g n)).run t
        ≡ next (arrived σ f g) ((dispatched x (λ r. pure (entered.Ordinary o n)) (λ p. when has_trap p trap then pure (entered.Proxy p n) else entering trap σ n p.target)).run t)
    unfolding dispatched fails pure next
    step None t e = refl
    step (Some (object.Ordinary r)) t e = ap (λ z. (f n o (ordinary_in z)).run t) (sym e)
    step (Some (object.Proxy p)) t e = hops p t p.revoked (has_trap p trap) refl

    counting : (a : List Answer) (calls : ℕ)
        → next (λ _. dispatched (lookup σ o) (f n o) (g n)) (counted a calls)
        ≡ next (arrived σ f g) (next (λ _. dispatched (lookup σ o) (λ r. pure (entered.Ordinary o n)) (λ p. when has_trap p trap then pure (entered.Proxy p n) else entering trap σ n p.target)) (counted a calls))
    unfolding next
    counting a zero = refl
    counting a (suc m) = step (lookup σ o) _ refl

  pub arrives : ((o : ℕ) (t : State) → (F zero o).run t ≡ failed (Refused 10) t)
      → (depth o : ℕ) (s : State) → (F depth o).run s ≡ next (arrived σ f g) ((entering trap σ depth o).run s)
  unfolding entering dispatch tick fails next ◌>>=◌
  arrives flat zero o s = flat o s
  arrives flat (suc n) o s = rw (level n o) (counting n o (λ q t. arrives flat n q t) s.answers s.calls)

-- each method
module _ (c : Context) (o : ℕ) (s : State) where
  pub get_prototype_of_goes_on : (depth : ℕ)
      → ((methods depth c).get_prototype_of o).run s ≡ next (arrived c.store (λ n q r. pure (ordinary_get_prototype_of r)) (λ n p. proxy_get_prototype_of (methods n c) p)) ((entering 0 c.store depth o).run s)
  unfolding methods proxy_get_prototype_of fails when◌then◌else◌
  get_prototype_of_goes_on depth = arrives 0 c.store (λ n q. (methods n c).get_prototype_of q) (λ n q r. pure (ordinary_get_prototype_of r)) (λ n p. proxy_get_prototype_of (methods n c) p) (λ n q. refl) (λ n p e. rw e) (λ q t. refl) depth o s

  pub set_prototype_of_goes_on : (v : Value) (depth : ℕ)
      → ((methods depth c).set_prototype_of o v).run s ≡ next (arrived c.store (λ n q r. pure (ordinary_set_prototype_of c.store q r v)) (λ n p. proxy_set_prototype_of c (methods n c) p v)) ((entering 1 c.store depth o).run s)
  unfolding methods proxy_set_prototype_of fails when◌then◌else◌
  set_prototype_of_goes_on v depth = arrives 1 c.store (λ n q. (methods n c).set_prototype_of q v) (λ n q r. pure (ordinary_set_prototype_of c.store q r v)) (λ n p. proxy_set_prototype_of c (methods n c) p v) (λ n q. refl) (λ n p e. rw e) (λ q t. refl) depth o s

  pub is_extensible_goes_on : (depth : ℕ)
      → ((methods depth c).is_extensible o).run s ≡ next (arrived c.store (λ n q r. pure (ordinary_is_extensible r)) (λ n p. proxy_is_extensible c (methods n c) p)) ((entering 2 c.store depth o).run s)
  unfolding methods proxy_is_extensible fails when◌then◌else◌
  is_extensible_goes_on depth = arrives 2 c.store (λ n q. (methods n c).is_extensible q) (λ n q r. pure (ordinary_is_extensible r)) (λ n p. proxy_is_extensible c (methods n c) p) (λ n q. refl) (λ n p e. rw e) (λ q t. refl) depth o s

  pub prevent_extensions_goes_on : (depth : ℕ)
      → ((methods depth c).prevent_extensions o).run s ≡ next (arrived c.store (λ n q r. pure (ordinary_prevent_extensions c.store q r)) (λ n p. proxy_prevent_extensions c (methods n c) p)) ((entering 3 c.store depth o).run s)
  unfolding methods proxy_prevent_extensions fails when◌then◌else◌
  prevent_extensions_goes_on depth = arrives 3 c.store (λ n q. (methods n c).prevent_extensions q) (λ n q r. pure (ordinary_prevent_extensions c.store q r)) (λ n p. proxy_prevent_extensions c (methods n c) p) (λ n q. refl) (λ n p e. rw e) (λ q t. refl) depth o s

  pub get_own_property_goes_on : (k : PropertyKey) (depth : ℕ)
      → ((methods depth c).get_own_property o k).run s ≡ next (arrived c.store (λ n q r. pure (ordinary_get_own_property c.store q k)) (λ n p. proxy_get_own_property (methods n c) p k)) ((entering 4 c.store depth o).run s)
  unfolding methods proxy_get_own_property fails when◌then◌else◌
  get_own_property_goes_on k depth = arrives 4 c.store (λ n q. (methods n c).get_own_property q k) (λ n q r. pure (ordinary_get_own_property c.store q k)) (λ n p. proxy_get_own_property (methods n c) p k) (λ n q. refl) (λ n p e. rw e) (λ q t. refl) depth o s

  pub define_own_property_goes_on : (k : PropertyKey) (d : PropertyDescriptor) (depth : ℕ)
      → ((methods depth c).define_own_property o k d).run s ≡ next (arrived c.store (λ n q r. ordinary_define_own_property c (methods n c) q k d) (λ n p. proxy_define_own_property c (methods n c) p k d)) ((entering 5 c.store depth o).run s)
  unfolding methods proxy_define_own_property fails when◌then◌else◌
  define_own_property_goes_on k d depth = arrives 5 c.store (λ n q. (methods n c).define_own_property q k d) (λ n q r. ordinary_define_own_property c (methods n c) q k d) (λ n p. proxy_define_own_property c (methods n c) p k d) (λ n q. refl) (λ n p e. rw e) (λ q t. refl) depth o s

  pub has_property_goes_on : (k : PropertyKey) (depth : ℕ)
      → ((methods depth c).has_property o k).run s ≡ next (arrived c.store (λ n q r. ordinary_has_property (methods n c) q k) (λ n p. proxy_has_property c (methods n c) p k)) ((entering 6 c.store depth o).run s)
  unfolding methods proxy_has_property fails when◌then◌else◌
  has_property_goes_on k depth = arrives 6 c.store (λ n q. (methods n c).has_property q k) (λ n q r. ordinary_has_property (methods n c) q k) (λ n p. proxy_has_property c (methods n c) p k) (λ n q. refl) (λ n p e. rw e) (λ q t. refl) depth o s

  pub get_goes_on : (k : PropertyKey) (receiver : Value) (depth : ℕ)
      → ((methods depth c).get o k receiver).run s ≡ next (arrived c.store (λ n q r. ordinary_get (methods n c) q k receiver) (λ n p. proxy_get (methods n c) p k receiver)) ((entering 7 c.store depth o).run s)
  unfolding methods proxy_get fails when◌then◌else◌
  get_goes_on k receiver depth = arrives 7 c.store (λ n q. (methods n c).get q k receiver) (λ n q r. ordinary_get (methods n c) q k receiver) (λ n p. proxy_get (methods n c) p k receiver) (λ n q. refl) (λ n p e. rw e) (λ q t. refl) depth o s

  pub set_goes_on : (k : PropertyKey) (v receiver : Value) (depth : ℕ)
      → ((methods depth c).set o k v receiver).run s ≡ next (arrived c.store (λ n q r. ordinary_set c (methods n c) q k v receiver) (λ n p. proxy_set c (methods n c) p k v receiver)) ((entering 8 c.store depth o).run s)
  unfolding methods proxy_set fails when◌then◌else◌
  set_goes_on k v receiver depth = arrives 8 c.store (λ n q. (methods n c).set q k v receiver) (λ n q r. ordinary_set c (methods n c) q k v receiver) (λ n p. proxy_set c (methods n c) p k v receiver) (λ n q. refl) (λ n p e. rw e) (λ q t. refl) depth o s

  pub delete_goes_on : (k : PropertyKey) (depth : ℕ)
      → ((methods depth c).delete o k).run s ≡ next (arrived c.store (λ n q r. ordinary_delete c (methods n c) q k) (λ n p. proxy_delete c (methods n c) p k)) ((entering 9 c.store depth o).run s)
  unfolding methods proxy_delete fails when◌then◌else◌
  delete_goes_on k depth = arrives 9 c.store (λ n q. (methods n c).delete q k) (λ n q r. ordinary_delete c (methods n c) q k) (λ n p. proxy_delete c (methods n c) p k) (λ n q. refl) (λ n p e. rw e) (λ q t. refl) depth o s

  pub own_property_keys_goes_on : (depth : ℕ)
      → ((methods depth c).own_property_keys o).run s ≡ next (arrived c.store (λ n q r. pure (ordinary_own_property_keys c.strings c.store q)) (λ n p. proxy_own_property_keys (methods n c) p)) ((entering 10 c.store depth o).run s)
  unfolding methods proxy_own_property_keys fails when◌then◌else◌
  own_property_keys_goes_on depth = arrives 10 c.store (λ n q. (methods n c).own_property_keys q) (λ n q r. pure (ordinary_own_property_keys c.strings c.store q)) (λ n p. proxy_own_property_keys (methods n c) p) (λ n q. refl) (λ n p e. rw e) (λ q t. refl) depth o s
