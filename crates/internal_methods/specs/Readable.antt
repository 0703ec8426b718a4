-- Refusal 9, as a table: which answers each trap, getter and setter can read. Assumes nothing.
use Rattle.std.specs.Prelude.{ℕ, suc, ◌≡◌, Bool, true, false, [], ◌∷◌, Some}
use Rattle.value.specs.declared.Value.{Value}
use Rattle.value.specs.declared.Value.TheVariants as value
use Rattle.value.specs.declared.PropertyKey.{PropertyKey}
use Rattle.value.specs.Value.{is_undefined}
use Rattle.property.specs.declared.PropertyDescriptor.{PropertyDescriptor}
use Rattle.property.specs.declared.Property.TheVariants.{Accessor}
use Rattle.store.specs.declared.OrdinaryObject.{OrdinaryObject}
use Rattle.store.specs.declared.ProxyObject.{ProxyObject}
use Rattle.store.specs.declared.Object.TheVariants.{Ordinary, Proxy}
use Rattle.store.specs.Store.{lookup, own}
use Rattle.internal_methods.specs.declared.Failure.TheVariants.{Refused}
use Rattle.internal_methods.specs.Monad.{Answer, State, state, failed, M}
use Rattle.internal_methods.specs.Monad as answer
use Rattle.internal_methods.specs.Methods.{Context}
use Rattle.internal_methods.specs.Proxy.{has_trap}
use Rattle.internal_methods.specs.Internal.{methods}

-- who takes an answer: a trap, by the name of its method, a getter or a setter
pub data Asker : Type 0 where
  get_prototype_of : Asker
  set_prototype_of : Asker
  is_extensible : Asker
  prevent_extensions : Asker
  get_own_property : Asker
  define_own_property : Asker
  has_property : Asker
  get : Asker
  set : Asker
  delete : Asker
  own_property_keys : Asker
  getter : Asker
  setter : Asker

-- what it asks for
pub data Reading : Type 0 where
  any_value : Reading
  descriptor : Reading
  key_list : Reading

abbrev pub reading : Asker → Reading
reading get_prototype_of = any_value
reading set_prototype_of = any_value
reading is_extensible = any_value
reading prevent_extensions = any_value
reading get_own_property = descriptor
reading define_own_property = any_value
reading has_property = any_value
reading get = any_value
reading set = any_value
reading delete = any_value
reading own_property_keys = key_list
reading getter = any_value
reading setter = any_value

abbrev pub is_object_or_function : Value → Bool
is_object_or_function value.Undefined = false
is_object_or_function value.Null = false
is_object_or_function (value.Boolean b) = false
is_object_or_function (value.Integer32 n) = false
is_object_or_function (value.Float64 x) = false
is_object_or_function (value.String s) = false
is_object_or_function (value.Symbol s) = false
is_object_or_function (value.Object o) = true
is_object_or_function (value.Function f) = true

-- descriptors and lists are for who asks for them; who does cannot read an object or a function
abbrev pub is_unreadable : Reading → Answer → Bool
is_unreadable any_value (answer.value v) = false
is_unreadable any_value (answer.descriptor d) = true
is_unreadable any_value (answer.keys ks) = true
is_unreadable any_value (answer.throw v) = false
is_unreadable descriptor (answer.value v) = is_object_or_function v
is_unreadable descriptor (answer.descriptor d) = false
is_unreadable descriptor (answer.keys ks) = true
is_unreadable descriptor (answer.throw v) = false
is_unreadable key_list (answer.value v) = is_object_or_function v
is_unreadable key_list (answer.descriptor d) = true
is_unreadable key_list (answer.keys ks) = false
is_unreadable key_list (answer.throw v) = false

-- what the table says of a run over one answer: it is refused as 9 exactly if the answer cannot be read
pub record ReadsAs (r : Reading) {A : Type 0} (m : M A) (calls : ℕ) : Type 0 where
  pub refuses : (a : Answer) → is_unreadable r a ≡ true → (s : State) × (m.run (state (a ∷ []) calls) ≡ failed (Refused 9) s)
  pub takes : (a : Answer) → is_unreadable r a ≡ false → (s : State) → m.run (state (a ∷ []) calls) ≡ failed (Refused 9) s → ⊥

-- o is a proxy that is not revoked, with the trap of bit i
pub record HasTrap (c : Context) (o i : ℕ) : Type 0 where
  pub proxy : ProxyObject
  pub found : lookup c.store o ≡ Some (Proxy proxy)
  pub alive : proxy.revoked ≡ false
  pub trap : has_trap proxy i ≡ true

-- o is an ordinary object, and its property k an accessor
pub record HasAccessor (c : Context) (o : ℕ) (k : PropertyKey) (get set : Value) : Type 0 where
  pub object : OrdinaryObject
  pub found : lookup c.store o ≡ Some (Ordinary object)
  pub enumerable : Bool
  pub configurable : Bool
  pub is : own c.store o k ≡ Some (Accessor get set enumerable configurable)

-- every trap, getter and setter, in every context and at every depth, as long as calls are left
pub record TableHolds (c : Context) (n calls o : ℕ) : Type 0 where
  pub get_prototype_of : HasTrap c o 0 → ReadsAs (reading get_prototype_of) ((methods (suc n) c).get_prototype_of o) (suc calls)
  pub set_prototype_of : HasTrap c o 1 → (v : Value) → ReadsAs (reading set_prototype_of) ((methods (suc n) c).set_prototype_of o v) (suc calls)
  pub is_extensible : HasTrap c o 2 → ReadsAs (reading is_extensible) ((methods (suc n) c).is_extensible o) (suc calls)
  pub prevent_extensions : HasTrap c o 3 → ReadsAs (reading prevent_extensions) ((methods (suc n) c).prevent_extensions o) (suc calls)
  pub get_own_property : HasTrap c o 4 → (k : PropertyKey) → ReadsAs (reading get_own_property) ((methods (suc n) c).get_own_property o k) (suc calls)
  pub define_own_property : HasTrap c o 5 → (k : PropertyKey) (d : PropertyDescriptor) → ReadsAs (reading define_own_property) ((methods (suc n) c).define_own_property o k d) (suc calls)
  pub has_property : HasTrap c o 6 → (k : PropertyKey) → ReadsAs (reading has_property) ((methods (suc n) c).has_property o k) (suc calls)
  pub get : HasTrap c o 7 → (k : PropertyKey) (receiver : Value) → ReadsAs (reading get) ((methods (suc n) c).get o k receiver) (suc calls)
  pub set : HasTrap c o 8 → (k : PropertyKey) (v receiver : Value) → ReadsAs (reading set) ((methods (suc n) c).set o k v receiver) (suc calls)
  pub delete : HasTrap c o 9 → (k : PropertyKey) → ReadsAs (reading delete) ((methods (suc n) c).delete o k) (suc calls)
  pub own_property_keys : HasTrap c o 10 → ReadsAs (reading own_property_keys) ((methods (suc n) c).own_property_keys o) (suc calls)
  pub getter : (k : PropertyKey) (g s receiver : Value) → HasAccessor c o k g s → is_undefined g ≡ false → ReadsAs (reading getter) ((methods (suc (suc n)) c).get o k receiver) (suc (suc calls))
  pub setter : (k : PropertyKey) (g s v receiver : Value) → HasAccessor c o k g s → is_undefined s ≡ false → ReadsAs (reading setter) ((methods (suc (suc n)) c).set o k v receiver) (suc (suc calls))
