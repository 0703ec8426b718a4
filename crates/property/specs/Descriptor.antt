-- ECMA-262 6.2.6 The Property Descriptor Specification Type. Assumes nothing.
use Rattle.std.specs.Prelude.{Bool, false, not, ◌&&◌, ◌||◌, cond, Option, None, Some}
use Rattle.value.specs.declared.Value.{Value}
use Rattle.value.specs.declared.Value.TheVariants.{Undefined}
use Rattle.value.specs.Value.{is_undefined, is_callable}
use Rattle.property.specs.declared.DescriptorKind.{DescriptorKind}
use Rattle.property.specs.declared.DescriptorKind.TheVariants as kind
use Rattle.property.specs.declared.PropertyDescriptor.{PropertyDescriptor}
use Rattle.property.specs.declared.DescriptorObject.{DescriptorObject}
use Rattle.property.specs.declared.Property.{Property}
use Rattle.property.specs.declared.Property.TheVariants.{Data, Accessor}
use Rattle.property.specs.Fields.{has, or_else, value_field, writable_field, get_field, set_field}

-- 6.2.6.1 IsAccessorDescriptor ( Desc )
unfoldable pub is_accessor_descriptor : PropertyDescriptor → Bool
is_accessor_descriptor d =
    has (get_field d.kind)  -- 2
    || has (set_field d.kind)  -- 3

-- 6.2.6.2 IsDataDescriptor ( Desc )
unfoldable pub is_data_descriptor : PropertyDescriptor → Bool
is_data_descriptor d =
    has (value_field d.kind)  -- 2
    || has (writable_field d.kind)  -- 3

-- 6.2.6.3 IsGenericDescriptor ( Desc )
unfoldable pub is_generic_descriptor : PropertyDescriptor → Bool
is_generic_descriptor d =
    not (is_accessor_descriptor d)  -- 2
    && not (is_data_descriptor d)  -- 3

-- 6.2.6.4 FromPropertyDescriptor ( Desc ), steps 4 to 9
abbrev pub from_property_descriptor : PropertyDescriptor → DescriptorObject
from_property_descriptor d = record {
  enumerable = d.enumerable;
  configurable = d.configurable;
  writable = writable_field d.kind;
  value = value_field d.kind;
  get = get_field d.kind;
  set = set_field d.kind;
}

-- 6.2.6.5 ToPropertyDescriptor ( Obj ): its tests, and step 16
-- 12.b and 14.b: the field is neither callable nor undefined
abbrev pub is_uncallable : Option Value → Bool
is_uncallable None = false
is_uncallable (Some v) = not (is_callable v) && not (is_undefined v)

-- 15
abbrev pub is_mixed : DescriptorObject → Bool
is_mixed d = (has d.get || has d.set) && (has d.value || has d.writable)

abbrev pub kind_of : Option Value → Option Bool → Option Value → Option Value → DescriptorKind
kind_of v w g s = cond (has g || has s) (kind.Accessor g s) (cond (has v || has w) (kind.Data v w) kind.Generic)

-- 16
unfoldable pub to_property_descriptor : DescriptorObject → PropertyDescriptor
to_property_descriptor d = record {
  enumerable = d.enumerable;
  configurable = d.configurable;
  kind = kind_of d.value d.writable d.get d.set;
}

-- 6.2.6.6 CompletePropertyDescriptor ( Desc ), with the defaults of step 1
unfoldable pub complete : PropertyDescriptor → Property
complete d =
    cond (is_accessor_descriptor d)
    (Accessor (or_else (get_field d.kind) Undefined) (or_else (set_field d.kind) Undefined)  -- 3.a, 3.b
    (or_else d.enumerable false) (or_else d.configurable false))  -- 4, 5
    (Data (or_else (value_field d.kind) Undefined) (or_else (writable_field d.kind) false)  -- 2.a, 2.b
    (or_else d.enumerable false) (or_else d.configurable false))  -- 4, 5

-- a property as the descriptor that has all the fields of its kind
abbrev pub descriptor_of : Property → PropertyDescriptor
descriptor_of (Data v w e c) = record {
  enumerable = Some e;
  configurable = Some c;
  kind = kind.Data (Some v) (Some w);
}
descriptor_of (Accessor g s e c) = record {
  enumerable = Some e;
  configurable = Some c;
  kind = kind.Accessor (Some g) (Some s);
}
