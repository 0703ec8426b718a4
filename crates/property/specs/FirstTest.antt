-- What the number of a validation says: the tests of 10.1.6.3 each by itself, and which of them is the first that fails. Assumes nothing.
use Rattle.std.specs.Prelude.{ℕ, ◌<◌, ◌≡◌, ◌↔◌, Bool, true, false, Option, None, Some}
use Rattle.value.specs.declared.Value.{Value}
use Rattle.value.specs.Value.{same_value}
use Rattle.property.specs.declared.PropertyDescriptor.{PropertyDescriptor}
use Rattle.property.specs.declared.Property.{Property}
use Rattle.property.specs.declared.Property.TheVariants.{Data, Accessor}
use Rattle.property.specs.Fields.{value_field, writable_field, get_field, set_field, enumerable, configurable, is_accessor}
use Rattle.property.specs.Descriptor.{is_accessor_descriptor, is_generic_descriptor}
use Rattle.property.specs.Validate.{has_no_fields, validate, failed_test, is_accepted}

-- the page comes to the tests of step 5: the descriptor has a field (4), and the property is not configurable
pub record Reached (d : PropertyDescriptor) (p : Property) : Type 0 where
  pub fields : has_no_fields d ≡ false
  pub fixed : configurable p ≡ false

-- the page comes to test n, unless one before it fails, and test n fails
pub data Fails (extensible : Bool) (d : PropertyDescriptor) : Option Property → ℕ → Type 0 where
  -- 2.a: nothing is added to what is not extensible
  not-extensible : extensible ≡ false → Fails extensible d None 1
  -- 5.a: true is asked for
  configurable-asked : {p : Property} → Reached d p → d.configurable ≡ Some true → Fails extensible d (Some p) 2
  -- 5.b: the other boolean is asked for
  enumerable-unlike : {p : Property} {b : Bool} → Reached d p → d.enumerable ≡ Some b → (b ≡ enumerable p → ⊥) → Fails extensible d (Some p) 3
  -- 5.c: the one is data, the other an accessor
  kind-unlike : {p : Property} → Reached d p → is_generic_descriptor d ≡ false → (is_accessor_descriptor d ≡ is_accessor p → ⊥) → Fails extensible d (Some p) 4
  -- 5.d.i: an accessor has another getter
  get-unlike : {g s v : Value} {e c : Bool} → Reached d (Accessor g s e c) → get_field d.kind ≡ Some v → same_value v g ≡ false → Fails extensible d (Some (Accessor g s e c)) 5
  -- 5.d.ii: an accessor has another setter
  set-unlike : {g s v : Value} {e c : Bool} → Reached d (Accessor g s e c) → set_field d.kind ≡ Some v → same_value v s ≡ false → Fails extensible d (Some (Accessor g s e c)) 6
  -- 5.e.i: of data that is not writable, true is asked for
  writable-asked : {w : Value} {e c : Bool} → Reached d (Data w false e c) → writable_field d.kind ≡ Some true → Fails extensible d (Some (Data w false e c)) 7
  -- 5.e.iii: data that is not writable has another value
  value-unlike : {w v : Value} {e c : Bool} → Reached d (Data w false e c) → value_field d.kind ≡ Some v → same_value v w ≡ false → Fails extensible d (Some (Data w false e c)) 8

-- test n fails, and none before it
pub record FirstFails (extensible : Bool) (d : PropertyDescriptor) (current : Option Property) (n : ℕ) : Type 0 where
  pub fails : Fails extensible d current n
  pub none_before : (m : ℕ) → m < n → Fails extensible d current m → ⊥

-- the number is n exactly if test n is the first that fails, and 0 exactly if none fails, which is exactly if the descriptor is accepted
pub record TestsDecided (extensible : Bool) (d : PropertyDescriptor) (current : Option Property) : Type 0 where
  pub first : (n : ℕ) → 0 < n → (failed_test (validate extensible d current) ≡ n) ↔ FirstFails extensible d current n
  pub none : (failed_test (validate extensible d current) ≡ 0) ↔ ((n : ℕ) → Fails extensible d current n → ⊥)
  pub accepted : (is_accepted (validate extensible d current) ≡ true) ↔ ((n : ℕ) → Fails extensible d current n → ⊥)
