-- ECMA-262 7.3.15: an object is sealed or frozen. Assumes nothing.
use Rattle.std.specs.Prelude.{ℕ, Bool, true, false, not, None, Some}
use Rattle.value.specs.declared.PropertyKey.{PropertyKey}
use Rattle.property.specs.declared.DescriptorKind.TheVariants as kind
use Rattle.property.specs.declared.PropertyDescriptor.{PropertyDescriptor}
use Rattle.property.specs.declared.Property.{Property}
use Rattle.property.specs.declared.Property.TheVariants.{Data, Accessor}
use Rattle.store.specs.Store.{Store}
use Rattle.internal_methods.specs.Methods.{Methods}
use Rattle.steps.specs.Operation.{Level, sealed, frozen}
use Rattle.steps.specs.Sequence.{Sequence, pure, reads, writes, ◌>>=◌, ◌>>◌, when◌then◌else◌, throw_if, for_each}

-- { [[Configurable]]: false }
abbrev pub sealed_descriptor : PropertyDescriptor
sealed_descriptor = record { enumerable = None; configurable = Some false; kind = kind.Generic }

-- { [[Configurable]]: false, [[Writable]]: false }
abbrev pub read_only_descriptor : PropertyDescriptor
read_only_descriptor = record {
  enumerable = None;
  configurable = Some false;
  kind = kind.Data None (Some false);
}

-- 7.3.15 step 5.b.ii
abbrev pub frozen_descriptor : Property → PropertyDescriptor
frozen_descriptor (Accessor g s e c) = sealed_descriptor  -- 1
frozen_descriptor (Data v w e c) = read_only_descriptor  -- 2

-- the methods that each store's objects have
module _ (call : Store → Methods) (o : ℕ) where
  -- 7.3.8 DefinePropertyOrThrow ( O, P, desc )
  unfoldable pub define_property_or_throw : PropertyKey → PropertyDescriptor → Sequence (Unit {0})
  define_property_or_throw k d = do
    success ← writes (λ σ. (call σ).define_own_property o k d)  -- 1
    throw_if 32 (not success)  -- 2, 3

  -- 7.3.15 step 5.b
  unfoldable pub freeze_property : PropertyKey → Sequence (Unit {0})
  freeze_property k = do
    current_desc ← reads (λ σ. (call σ).get_own_property o k)  -- i
    elim current_desc [  -- ii
      | None ↦ pure tt
      | Some p ↦ define_property_or_throw k (frozen_descriptor p)  -- 3
    ]

  -- 7.3.15 steps 4.a and 5.b: the turn of a key
  unfoldable pub turn : Level → PropertyKey → Sequence (Unit {0})
  turn sealed k = define_property_or_throw k sealed_descriptor  -- 4.a.i
  turn frozen k = freeze_property k

  -- 7.3.15 SetIntegrityLevel ( O, level )
  unfoldable pub set_integrity_level : Level → Sequence Bool
  set_integrity_level level = do
    status ← writes (λ σ. (call σ).prevent_extensions o)  -- 1
    when not status then pure false  -- 2
        else do
          keys ← reads (λ σ. (call σ).own_property_keys o)  -- 3
          for_each (turn level) keys  -- 4, 5
          pure true  -- 6
