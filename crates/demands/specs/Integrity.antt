-- What steps 18 and 19 do to an ordinary object, and what their true says of it. Assumes nothing.
use Rattle.std.specs.Prelude.{ℕ, ◌+◌, ◌*◌, ◌≤◌, ◌≡◌, Bool, true, false, List, [], length, None, Some}
use Rattle.value.specs.declared.PropertyKey.{PropertyKey}
use Rattle.property.specs.declared.Property.{Property}
use Rattle.property.specs.declared.Property.TheVariants.{Data, Accessor}
use Rattle.store.specs.declared.OrdinaryObject.{OrdinaryObject}
use Rattle.store.specs.declared.Object.TheVariants.{Ordinary}
use Rattle.store.specs.Store.{Store, World, lookup, own}
use Rattle.store.specs.OwnKeys.{ordinary_own_property_keys}
use Rattle.record.specs.Sheet.{sheet_of}
use Rattle.record.specs.Tests.{first_failing}
use Rattle.steps.specs.Operation.{Level, sealed, frozen, set_integrity_level, test_integrity_level, asked}
use Rattle.steps.specs.Perform.{boolean, maximum_calls}
use Rattle.steps.specs.Response.{result}
use Rattle.steps.specs.Step.{record_tests, step}

-- the property is not configurable, and data that is frozen is not writable
abbrev pub IsFixed : Level → Property → Type 0
IsFixed sealed (Data v w e c) = c ≡ false
IsFixed sealed (Accessor g s e c) = c ≡ false
IsFixed frozen (Data v w e c) = (c ≡ false) × (w ≡ false)
IsFixed frozen (Accessor g s e c) = c ≡ false

-- o is an ordinary object that is not extensible, and all its properties are fixed
pub record HasLevel (level : Level) (σ : Store) (o : ℕ) : Type 0 where
  pub object : OrdinaryObject
  pub found : lookup σ o ≡ Some (Ordinary object)
  pub non_extensible : object.extensible ≡ false
  pub fixed : (k : PropertyKey) (p : Property) → own σ o k ≡ Some p → IsFixed level p

-- what is frozen is sealed too
abbrev pub covers : Level → Level → Bool
covers frozen tested = true
covers sealed sealed = true
covers sealed frozen = false

-- a step, from any world
pub record IntegrityHolds (ω : World) (bytes sheet output : List ℕ) : Type 0 where
  -- step 18 that answers true on an ordinary object leaves it with the level
  pub sets : (o : ℕ) (level : Level) (r : OrdinaryObject) → lookup ω.store o ≡ Some (Ordinary r) → asked bytes ≡ set_integrity_level o level
      → (step ω bytes sheet output).response.ending ≡ result (boolean true) → HasLevel level (step ω bytes sheet output).world.store o
  -- and it answers true if its sheet is empty, as far as calls reach: it makes two, and at most four for each key
  pub succeeds : (o : ℕ) (level : Level) (r : OrdinaryObject) → lookup ω.store o ≡ Some (Ordinary r) → first_failing (record_tests ω bytes sheet) ≡ None → sheet_of sheet ≡ []
      → asked bytes ≡ set_integrity_level o level → 2 + 4 * length (ordinary_own_property_keys ω.strings ω.store o) ≤ maximum_calls
      → (step ω bytes sheet output).response.ending ≡ result (boolean true)
  -- step 19 that answers true for an ordinary object found it with the level
  pub means : (o : ℕ) (level : Level) (r : OrdinaryObject) → lookup ω.store o ≡ Some (Ordinary r) → asked bytes ≡ test_integrity_level o level
      → (step ω bytes sheet output).response.ending ≡ result (boolean true) → HasLevel level ω.store o
  -- and it answers true for an object with the level if its sheet is empty, as far as calls reach: it makes two, and one for each key
  pub tells : (o : ℕ) (level tested : Level) → HasLevel level ω.store o → covers level tested ≡ true → first_failing (record_tests ω bytes sheet) ≡ None → sheet_of sheet ≡ []
      → asked bytes ≡ test_integrity_level o tested → 2 + length (ordinary_own_property_keys ω.strings ω.store o) ≤ maximum_calls
      → (step ω bytes sheet output).response.ending ≡ result (boolean true)
