-- ECMA-262 6.1.7.2: the essential internal methods of an object, as methods call one another. Assumes nothing.
use Rattle.std.specs.Prelude.{ℕ, Bool, List, Option}
use Rattle.value.specs.declared.Value.{Value}
use Rattle.value.specs.declared.PropertyKey.{PropertyKey}
use Rattle.property.specs.declared.PropertyDescriptor.{PropertyDescriptor}
use Rattle.text.specs.Strings.{Strings}
use Rattle.store.specs.Store.{Store}
use Rattle.internal_methods.specs.Monad.{M}
use Rattle.property.specs.declared.Property.{Property}

-- what methods read; `allowance` is how many properties the store may hold
pub record Context : Type 0 where
  pub store : Store
  pub strings : Strings
  pub allowance : ℕ

-- a method that writes gives a Boolean and the store after it
abbrev pub Written : Type 0
Written = Bool × Store

-- the object comes first, and the receiver last
pub record Methods : Type 0 where
  pub get_prototype_of : ℕ → M Value
  pub set_prototype_of : ℕ → Value → M Written
  pub is_extensible : ℕ → M Bool
  pub prevent_extensions : ℕ → M Written
  pub get_own_property : ℕ → PropertyKey → M (Option Property)
  pub define_own_property : ℕ → PropertyKey → PropertyDescriptor → M Written
  pub has_property : ℕ → PropertyKey → M Bool
  pub get : ℕ → PropertyKey → Value → M Value
  pub set : ℕ → PropertyKey → Value → Value → M Written
  pub delete : ℕ → PropertyKey → M Written
  pub own_property_keys : ℕ → M (List PropertyKey)
