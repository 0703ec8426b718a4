-- The fields of a Property Descriptor (ECMA-262 6.2.6), each present or absent. Assumes nothing.
use Rattle.std.specs.Prelude.{Bool, true, false, not, Option, None, Some, is_some, unwrap_or}
use Rattle.std.specs.Bool.{beq}
use Rattle.value.specs.declared.Value.{Value}
use Rattle.value.specs.Value.{same_value}
use Rattle.property.specs.declared.DescriptorKind.{DescriptorKind}
use Rattle.property.specs.declared.DescriptorKind.TheVariants.{Data, Accessor, Generic}
use Rattle.property.specs.declared.Property.{Property}
use Rattle.property.specs.declared.Property.TheVariants as property

-- 'has a .. field'
abbrev pub has : {A : Type 0} → Option A → Bool
has f = is_some f

-- 'has a .. field and it is true', and 'and it is false'
abbrev pub is_true : Option Bool → Bool
is_true f = unwrap_or f false

abbrev pub is_false : Option Bool → Bool
is_false f = not (unwrap_or f true)

-- 'has a .. field and it is not the same'
abbrev pub unlike : Option Value → Value → Bool
unlike None v = false
unlike (Some u) v = not (same_value u v)

abbrev pub unlike_flag : Option Bool → Bool → Bool
unlike_flag None b = false
unlike_flag (Some a) b = not (beq a b)

-- the field's value, or another where it is absent
abbrev pub or_else : {A : Type 0} → Option A → A → A
or_else f v = unwrap_or f v

-- the four fields of which a descriptor's kind decides
abbrev pub value_field : DescriptorKind → Option Value
value_field (Data v w) = v
value_field (Accessor g s) = None
value_field Generic = None

abbrev pub writable_field : DescriptorKind → Option Bool
writable_field (Data v w) = w
writable_field (Accessor g s) = None
writable_field Generic = None

abbrev pub get_field : DescriptorKind → Option Value
get_field (Data v w) = None
get_field (Accessor g s) = g
get_field Generic = None

abbrev pub set_field : DescriptorKind → Option Value
set_field (Data v w) = None
set_field (Accessor g s) = s
set_field Generic = None

-- the attributes of a property
abbrev pub enumerable : Property → Bool
enumerable (property.Data v w e c) = e
enumerable (property.Accessor g s e c) = e

abbrev pub configurable : Property → Bool
configurable (property.Data v w e c) = c
configurable (property.Accessor g s e c) = c

abbrev pub is_accessor : Property → Bool
is_accessor (property.Data v w e c) = false
is_accessor (property.Accessor g s e c) = true
