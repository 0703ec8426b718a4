-- ECMA-262 10.1.6.3 ValidateAndApplyPropertyDescriptor, 10.1.6.2, and the merging of two descriptors. Assumes nothing.
use Rattle.std.specs.Prelude.{ℕ, Bool, true, false, not, ◌&&◌, cond, Option, None, Some}
use Rattle.std.specs.Bool.{beq}
use Rattle.value.specs.declared.Value.{Value}
use Rattle.value.specs.declared.Value.TheVariants.{Undefined}
use Rattle.property.specs.declared.DescriptorKind.{DescriptorKind}
use Rattle.property.specs.declared.DescriptorKind.TheVariants as kind
use Rattle.property.specs.declared.PropertyDescriptor.{PropertyDescriptor}
use Rattle.property.specs.declared.Property.{Property}
use Rattle.property.specs.declared.Property.TheVariants.{Data, Accessor}
use Rattle.property.specs.declared.ValidationTest.{ValidationTest}
use Rattle.property.specs.declared.ValidationTest.TheVariants as test
use Rattle.property.specs.declared.Validation.{Validation}
use Rattle.property.specs.declared.Validation.TheVariants.{Rejected, Unchanged, Becomes}
use Rattle.property.specs.Fields.{has, is_true, unlike, unlike_flag, or_else, value_field, writable_field, get_field, set_field, enumerable, configurable, is_accessor}
use Rattle.property.specs.Descriptor.{is_accessor_descriptor, is_data_descriptor, is_generic_descriptor, complete}

abbrev pub has_no_fields : PropertyDescriptor → Bool
has_no_fields d = is_generic_descriptor d && (not (has d.enumerable) && not (has d.configurable))

-- step 6: what the descriptor makes of the property
unfoldable pub applied : PropertyDescriptor → Property → Property
applied d (Data v w e c) =
    cond (is_accessor_descriptor d)
    (Accessor (or_else (get_field d.kind) Undefined) (or_else (set_field d.kind) Undefined)  -- 6.a
    (or_else d.enumerable e) (or_else d.configurable c))
    (Data (or_else (value_field d.kind) v) (or_else (writable_field d.kind) w)  -- 6.c
    (or_else d.enumerable e) (or_else d.configurable c))
applied d (Accessor g s e c) =
    cond (is_data_descriptor d)
    (Data (or_else (value_field d.kind) Undefined) (or_else (writable_field d.kind) false)  -- 6.b
    (or_else d.enumerable e) (or_else d.configurable c))
    (Accessor (or_else (get_field d.kind) g) (or_else (set_field d.kind) s)  -- 6.c
    (or_else d.enumerable e) (or_else d.configurable c))

-- 'if .., return false', with the test that fails; else the page goes on
unfoldable pub reject_if : ValidationTest → Bool → Validation → Validation
reject_if t fails next = cond fails (Rejected t) next

-- 5.c: the one is data, the other an accessor
abbrev pub is_other_kind : PropertyDescriptor → Property → Bool
is_other_kind d current = not (is_generic_descriptor d) && not (beq (is_accessor_descriptor d) (is_accessor current))

-- steps 5.d and 5.e, where `next` is what step 6 makes of the property
abbrev pub validate_kind : PropertyDescriptor → Property → Validation → Validation
validate_kind d (Accessor g s e c) next =
    reject_if test.Get (unlike (get_field d.kind) g)  -- 5.d.i
    (reject_if test.Set (unlike (set_field d.kind) s)  -- 5.d.ii
    next)
validate_kind d (Data v true e c) next = next
validate_kind d (Data v false e c) next =
    reject_if test.Writable (is_true (writable_field d.kind))  -- 5.e.i
    (reject_if test.Value (unlike (value_field d.kind) v)  -- 5.e.iii
    (cond (has (value_field d.kind)) Unchanged  -- 5.e.iii, and 5.e.ii: it returns here
    next))

-- step 5
abbrev pub validate_fixed : PropertyDescriptor → Property → Validation → Validation
validate_fixed d current next =
    reject_if test.Configurable (is_true d.configurable)  -- 5.a
    (reject_if test.Enumerable (unlike_flag d.enumerable (enumerable current))  -- 5.b
    (reject_if test.Kind (is_other_kind d current)  -- 5.c
    (validate_kind d current next)))  -- 5.d, 5.e

-- 10.1.6.3 ValidateAndApplyPropertyDescriptor ( O, P, extensible, Desc, current )
unfoldable pub validate : Bool → PropertyDescriptor → Option Property → Validation
validate extensible d None =
    reject_if test.Extensible (not extensible)  -- 2.a
    (Becomes (complete d))  -- 2.c, 2.d, 2.e
validate extensible d (Some current) =
    cond (has_no_fields d) Unchanged  -- 4
    (cond (configurable current) (Becomes (applied d current))  -- 5, where it is configurable: 6, 7
    (validate_fixed d current (Becomes (applied d current))))  -- 5, else 6, 7

abbrev pub test_number : ValidationTest → ℕ
test_number test.Extensible = 1
test_number test.Configurable = 2
test_number test.Enumerable = 3
test_number test.Kind = 4
test_number test.Get = 5
test_number test.Set = 6
test_number test.Writable = 7
test_number test.Value = 8

-- the first test that fails, 0 where it is accepted
abbrev pub failed_test : Validation → ℕ
failed_test (Rejected t) = test_number t
failed_test Unchanged = 0
failed_test (Becomes p) = 0

abbrev pub is_accepted : Validation → Bool
is_accepted (Rejected t) = false
is_accepted Unchanged = true
is_accepted (Becomes p) = true

-- 10.1.6.2 IsCompatiblePropertyDescriptor ( Extensible, Desc, Current )
unfoldable pub is_compatible : Bool → PropertyDescriptor → Option Property → Bool
is_compatible extensible d current = is_accepted (validate extensible d current)

-- the property after validation: as it was, unless validation says what it becomes
abbrev pub settled : Option Property → Validation → Option Property
settled current (Rejected t) = current
settled current Unchanged = current
settled current (Becomes p) = Some p

-- a property of the fields of a descriptor, if it has all that its kind needs
abbrev pub data_of : Option Value → Option Bool → Option Bool → Option Bool → Option Property
data_of (Some v) (Some w) (Some e) (Some c) = Some (Data v w e c)
data_of (Some v) (Some w) (Some e) None = None
data_of (Some v) (Some w) None c = None
data_of (Some v) None e c = None
data_of None w e c = None

abbrev pub accessor_of : Option Value → Option Value → Option Bool → Option Bool → Option Property
accessor_of (Some g) (Some s) (Some e) (Some c) = Some (Accessor g s e c)
accessor_of (Some g) (Some s) (Some e) None = None
accessor_of (Some g) (Some s) None c = None
accessor_of (Some g) None e c = None
accessor_of None s e c = None

abbrev pub populated : DescriptorKind → Option Bool → Option Bool → Option Property
populated (kind.Data v w) e c = data_of v w e c
populated (kind.Accessor g s) e c = accessor_of g s e c
populated kind.Generic e c = None

unfoldable pub property_of : PropertyDescriptor → Option Property
property_of d = populated d.kind d.enumerable d.configurable

-- one is data and the other an accessor, so that they cannot be merged
abbrev pub unmergeable : Property → PropertyDescriptor → Bool
unmergeable (Data v w e c) d = is_accessor_descriptor d
unmergeable (Accessor g s e c) d = is_data_descriptor d
