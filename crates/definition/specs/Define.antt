-- What defining a property asks. Assumes nothing.
use Rattle.std.specs.Prelude.{ℕ, ◌<◌, ◌≤◌, ◌^◌}
use Rattle.value.specs.declared.PropertyKey.{PropertyKey}
use Rattle.value.specs.PropertyKey.{key_number}
use Rattle.store.specs.Store.{maximum_properties}

-- what a method that may add the property k asks of the allowance; every run has a store and a table
pub record Definable (allowance : ℕ) (k : PropertyKey) : Type 0 where
  pub number : key_number k < 2 ^ 58
  pub limit : allowance ≤ maximum_properties
