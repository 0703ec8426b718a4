-- ECMA-262 7.3.16: whether an object is sealed or frozen. Assumes nothing.
use Rattle.std.specs.Prelude.{ℕ, Bool, true, false, ◌||◌, List, [], ◌∷◌, Option, None, Some}
use Rattle.value.specs.declared.PropertyKey.{PropertyKey}
use Rattle.property.specs.declared.Property.TheVariants.{Data, Accessor}
use Rattle.internal_methods.specs.Monad.{M, pure, ◌>>=◌, when◌then◌else◌}
use Rattle.internal_methods.specs.Methods.{Methods}
use Rattle.steps.specs.Operation.{Level, sealed, frozen}
use Rattle.property.specs.declared.Property.{Property}

-- 7.3.16 step 5.b: a property that the level does not allow
abbrev pub is_loose : Level → Option Property → Bool
is_loose level None = false
is_loose level (Some (Accessor g s e c)) = c  -- i
is_loose sealed (Some (Data v w e c)) = c  -- i
is_loose frozen (Some (Data v w e c)) = c || w  -- i, ii

module _ (call : Methods) (o : ℕ) (level : Level) where
  -- 7.3.16 steps 5 and 6
  unfoldable pub test_properties : List PropertyKey → M Bool
  test_properties [] = pure true  -- 6
  test_properties (k ∷ ks) = do
    current_desc ← call.get_own_property o k  -- 5.a
    when is_loose level current_desc then pure false  -- 5.b
        else test_properties ks

  -- 7.3.16 TestIntegrityLevel ( O, level )
  unfoldable pub test_integrity_level : M Bool
  test_integrity_level = do
    extensible ← call.is_extensible o  -- 1
    when extensible then pure false  -- 2
        else do
          keys ← call.own_property_keys o  -- 4
          test_properties keys  -- 5, 6
