-- 10.5.5 [[GetOwnProperty]] ( P ), once the trap has answered and the target has told its property: the lines of
-- `proxy_get_own_property`, in parts. Assumes nothing.
use Rattle.std.specs.Prelude.{ℕ, not, ◌&&◌, Option, None, Some}
use Rattle.property.specs.declared.DescriptorObject.{DescriptorObject}
use Rattle.property.specs.Fields.{configurable}
use Rattle.property.specs.Descriptor.{is_uncallable, is_mixed, to_property_descriptor, complete, descriptor_of}
use Rattle.property.specs.Validate.{is_compatible}
use Rattle.internal_methods.specs.Monad.{M, pure, ◌>>=◌, ◌>>◌, throw_if}
use Rattle.internal_methods.specs.Methods.{Methods}
use Rattle.internal_methods.specs.Proxy.{absent_or_configurable, is_writable, is_read_only}
use Rattle.property.specs.declared.Property.{Property}

-- step 10, of the target's number and its property
unfoldable pub undefined_result : Methods → ℕ → Option Property → M (Option Property)
undefined_result call o target_desc = elim target_desc [
  | None ↦ pure None  -- 10.a
  | Some target ↦ do
    throw_if 8 (not (configurable target))  -- 10.b
    extensible_target ← call.is_extensible o  -- 10.c
    throw_if 9 (not extensible_target)  -- 10.d
    pure None  -- 10.e
]

-- steps 11 to 17
unfoldable pub descriptor_result : Methods → ℕ → DescriptorObject → Option Property → M (Option Property)
descriptor_result call o object target_desc = do
  extensible_target ← call.is_extensible o  -- 11
  throw_if 27 (is_uncallable object.get)  -- 12, 6.2.6.5 step 12.b
  throw_if 28 (is_uncallable object.set)  -- 12, 6.2.6.5 step 14.b
  throw_if 29 (is_mixed object)  -- 12, 6.2.6.5 step 15
  let result_desc = complete (to_property_descriptor object)  -- 12, 13
  throw_if 10 (not (is_compatible extensible_target (descriptor_of result_desc) target_desc))  -- 14, 15
  throw_if 12 (not (configurable result_desc) && absent_or_configurable target_desc)  -- 16.a
  throw_if 11 (not (configurable result_desc) && (is_read_only result_desc && is_writable target_desc))  -- 16.b
  pure (Some result_desc)  -- 17
