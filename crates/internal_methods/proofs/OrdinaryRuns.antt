-- How the methods of an ordinary object run: what they give, and when they surely give a result. Assumes nothing.
use Rattle.std.specs.Prelude.{Option, None, Some}
use Prim.Native.Nat.{ℕ, suc}
use mathlib.Core.Path.{◌≡◌, refl, sym, ap, ◌∙◌}
use mathlib.Core.Bool.{Bool, true, false, not, false≢true}
use mathlib.Core.List.{List}
use Rattle.value.specs.declared.Value.{Value}
use Rattle.value.specs.declared.Value.TheVariants as value
use Rattle.value.specs.declared.PropertyKey.{PropertyKey}
use Rattle.value.specs.Value.{object_of}
use Rattle.property.specs.declared.Property.{Property}
use Rattle.property.specs.declared.Property.TheVariants.{Data, Accessor}
use Rattle.property.specs.declared.PropertyDescriptor.{PropertyDescriptor}
use Rattle.property.specs.declared.Validation.{Validation}
use Rattle.property.specs.declared.Validation.TheVariants.{Rejected, Unchanged, Becomes}
use Rattle.property.specs.Fields.{is_accessor, configurable}
use Rattle.property.specs.Validate.{validate}
use Rattle.store.specs.declared.OrdinaryObject.{OrdinaryObject}
use Rattle.store.specs.declared.ProxyObject.{ProxyObject}
use Rattle.store.specs.declared.Object.TheVariants.{Ordinary}
use Rattle.store.specs.Store.{Store, lookup, own}
use Rattle.store.specs.OwnKeys.{ordinary_own_property_keys}
use Rattle.internal_methods.specs.Monad.{Answer, State, state, done, M, pure, next, ◌>>=◌, tick, when◌then◌else◌, dispatched, dispatch}
use Rattle.internal_methods.specs.Methods.{Context}
use Rattle.internal_methods.specs.Ordinary.{is_full, apply_validation, ordinary_define_own_property, ordinary_has_property, ordinary_get, set_on_receiver, set_data, ordinary_set, ordinary_delete}
use Rattle.internal_methods.specs.Internal.{methods}

-- Runs that are done ------------------------------------------------------------------------

pub record Completes {A : Type 0} (m : M A) (s : State) : Type 0 where
  pub result : A
  pub rest : State
  pub is : m.run s ≡ done result rest

module _ {A : Type 0} where
  completes-pure : (a : A) (s : State) → Completes (pure a) s
  unfolding pure
  completes-pure a s = record { result = a; rest = s; is = refl }

  completes-if : (b : Bool) (m k : M A) (s : State) → Completes m s → Completes k s → Completes (when◌then◌else◌ b m k) s
  unfolding when◌then◌else◌
  completes-if true m k s h i = h
  completes-if false m k s h i = i

  completes-bind : {B : Type 0} (m : M B) (k : B → M A) {b : B} {s t : State} → m.run s ≡ done b t → Completes (k b) t → Completes (m >>= k) s
  unfolding ◌>>=◌ next
  completes-bind m k e h = record { result = h.result; rest = h.rest; is = ap (next k) e ∙ h.is }

-- One call ----------------------------------------------------------------------------------

-- a method of an ordinary object runs its body, with one call less
pub ordinary-run : {A : Type 0} (σ : Store) (o : ℕ) (f : OrdinaryObject → M A) (g : ProxyObject → M A) (r : OrdinaryObject) → lookup σ o ≡ Some (Ordinary r)
    → (a : List Answer) (m : ℕ) → (dispatch σ o f g).run (state a (suc m)) ≡ (f r).run (state a m)
unfolding dispatch dispatched tick ◌>>=◌ next
ordinary-run σ o f g r e a m = rw e

module _ (c : Context) (o : ℕ) (r : OrdinaryObject) (found : lookup c.store o ≡ Some (Ordinary r)) (a : List Answer) where
  begins : {A : Type 0} (f : OrdinaryObject → M A) (g : ProxyObject → M A) (m : ℕ) → Completes (f r) (state a m) → Completes (dispatch c.store o f g) (state a (suc m))
  begins f g m h = record { result = h.result; rest = h.rest; is = ordinary-run c.store o f g r found a m ∙ h.is }

  module _ (n m : ℕ) where
    pub own-run : (k : PropertyKey) (d : Option Property) → own c.store o k ≡ d → ((methods (suc n) c).get_own_property o k).run (state a (suc m)) ≡ done d (state a m)
    unfolding methods pure
    own-run k d e = ordinary-run _ o _ _ r found a m ∙ ap (λ (x : Option Property). done x (state a m)) e

    pub prototype-run : (v : Value) → r.prototype ≡ v → ((methods (suc n) c).get_prototype_of o).run (state a (suc m)) ≡ done v (state a m)
    unfolding methods pure
    prototype-run v e = ordinary-run _ o _ _ r found a m ∙ ap (λ (x : Value). done x (state a m)) e

    pub extensible-run : ((methods (suc n) c).is_extensible o).run (state a (suc m)) ≡ done r.extensible (state a m)
    unfolding methods pure
    extensible-run = ordinary-run _ o _ _ r found a m

    pub keys-run : ((methods (suc n) c).own_property_keys o).run (state a (suc m)) ≡ done (ordinary_own_property_keys c.strings c.store o) (state a m)
    unfolding methods pure
    keys-run = ordinary-run _ o _ _ r found a m

    pub set_prototype_of-completes : (v : Value) → Completes ((methods (suc n) c).set_prototype_of o v) (state a (suc m))
    unfolding methods
    set_prototype_of-completes v = begins _ _ m (completes-pure _ _)

    pub prevent_extensions-completes : Completes ((methods (suc n) c).prevent_extensions o) (state a (suc m))
    unfolding methods
    prevent_extensions-completes = begins _ _ m (completes-pure _ _)

  -- More calls ------------------------------------------------------------------------------

  module _ (n m : ℕ) (k : PropertyKey) where
    pub delete-completes : Completes ((methods (suc (suc n)) c).delete o k) (state a (suc (suc m)))
    unfolding methods ordinary_delete
    delete-completes = begins _ _ (suc m) (go (own c.store o k) refl)
      where
        go : (d : Option Property) → own c.store o k ≡ d → Completes (ordinary_delete c (methods (suc n) c) o k) (state a (suc m))
        go None e = completes-bind _ _ (own-run n m k _ e) (completes-pure _ _)
        go (Some p) e = completes-bind _ _ (own-run n m k _ e) (completes-if (configurable p) _ _ _ (completes-pure _ _) (completes-pure _ _))

    -- a store with room takes any descriptor
    pub define_own_property-completes : is_full c ≡ false → (d : PropertyDescriptor) → Completes ((methods (suc (suc n)) c).define_own_property o k d) (state a (suc (suc (suc m))))
    unfolding methods ordinary_define_own_property apply_validation when◌then◌else◌
    define_own_property-completes room d = begins _ _ (suc (suc m)) (completes-bind _ _ (own-run n (suc m) k _ refl) (completes-bind _ _ (extensible-run n m) (go (own c.store o k) (validate r.extensible d (own c.store o k)))))
      where
        go : (current : Option Property) (v : Validation) → Completes (apply_validation c o k current v) (state a m)
        go current (Rejected t) = completes-pure _ _
        go current Unchanged = completes-pure _ _
        go None (Becomes p) = rw room (completes-pure _ _)
        go (Some q) (Becomes p) = completes-pure _ _

    -- an object without a prototype looks no further
    pub has_property-completes : r.prototype ≡ value.Null → Completes ((methods (suc (suc n)) c).has_property o k) (state a (suc (suc (suc m))))
    unfolding methods ordinary_has_property
    has_property-completes alone = begins _ _ (suc (suc m)) (go (own c.store o k) refl)
      where
        go : (d : Option Property) → own c.store o k ≡ d → Completes (ordinary_has_property (methods (suc n) c) o k) (state a (suc (suc m)))
        go (Some p) e = completes-bind _ _ (own-run n (suc m) k _ e) (completes-pure _ _)
        go None e = completes-bind _ _ (own-run n (suc m) k _ e) (completes-bind _ _ (prototype-run n m _ alone) (completes-pure _ _))

  -- a property that is no accessor asks neither a getter nor a setter
  module _ (n : ℕ) (k : PropertyKey) (alone : r.prototype ≡ value.Null) (is_data : (p : Property) → own c.store o k ≡ Some p → is_accessor p ≡ false) where
    pub get-completes : (m : ℕ) (receiver : Value) → Completes ((methods (suc (suc n)) c).get o k receiver) (state a (suc (suc (suc m))))
    unfolding methods ordinary_get
    get-completes m receiver = begins _ _ (suc (suc m)) (go (own c.store o k) refl)
      where
        go : (d : Option Property) → own c.store o k ≡ d → Completes (ordinary_get (methods (suc n) c) o k receiver) (state a (suc (suc m)))
        go (Some (Data v w e f)) i = completes-bind _ _ (own-run n (suc m) k _ i) (completes-pure _ _)
        go (Some (Accessor g s e f)) i = absurd (false≢true (sym (is_data _ i)))
        go None i = completes-bind _ _ (own-run n (suc m) k _ i) (completes-bind _ _ (prototype-run n m _ alone) (completes-pure _ _))

    -- the receiver is the object itself
    module _ (room : is_full c ≡ false) (v receiver : Value) (itself : object_of receiver ≡ Some o) where
      receiver-completes : (m : ℕ) → Completes (set_on_receiver c (methods (suc (suc n)) c) k v o) (state a (suc (suc (suc (suc m)))))
      unfolding set_on_receiver
      receiver-completes m = go (own c.store o k) refl
        where
          go : (d : Option Property) → own c.store o k ≡ d → Completes (set_on_receiver c (methods (suc (suc n)) c) k v o) (state a (suc (suc (suc (suc m)))))
          go (Some (Data w writable e f)) i = completes-bind _ _ (own-run (suc n) (suc (suc (suc m))) k _ i) (completes-if (not writable) _ _ _ (completes-pure _ _) (define_own_property-completes n m k room _))
          go (Some (Accessor g s e f)) i = absurd (false≢true (sym (is_data _ i)))
          go None i = completes-bind _ _ (own-run (suc n) (suc (suc (suc m))) k _ i) (define_own_property-completes n m k room _)

      data-completes : (m : ℕ) (writable : Bool) → Completes (set_data c (methods (suc (suc n)) c) k v writable receiver) (state a (suc (suc (suc (suc m)))))
      unfolding set_data
      data-completes m writable = completes-if (not writable) _ _ _ (completes-pure _ _) (rw itself (receiver-completes m))

      pub set-completes : (m : ℕ) → Completes ((methods (suc (suc (suc n))) c).set o k v receiver) (state a (suc (suc (suc (suc (suc (suc (suc m))))))))
      unfolding methods ordinary_set
      set-completes m = begins _ _ (suc (suc (suc (suc (suc (suc m)))))) (go (own c.store o k) refl)
        where
          go : (d : Option Property) → own c.store o k ≡ d → Completes (ordinary_set c (methods (suc (suc n)) c) o k v receiver) (state a (suc (suc (suc (suc (suc (suc m)))))))
          go (Some (Data w writable e f)) i = completes-bind _ _ (own-run (suc n) (suc (suc (suc (suc (suc m))))) k _ i) (data-completes (suc m) writable)
          go (Some (Accessor g s e f)) i = absurd (false≢true (sym (is_data _ i)))
          go None i = completes-bind _ _ (own-run (suc n) (suc (suc (suc (suc (suc m))))) k _ i) (completes-bind _ _ (prototype-run (suc n) (suc (suc (suc (suc m)))) _ alone) (data-completes m true))
