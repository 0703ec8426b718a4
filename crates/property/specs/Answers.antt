-- The answers of the functions whose definitions answer by an Option or a test. Assumes nothing.
use Rattle.std.specs.Prelude.{ℕ, cond, Option, None, Some}
use Rattle.property.specs.declared.PropertyDescriptor.{PropertyDescriptor}
use Rattle.property.specs.declared.DescriptorObject.{DescriptorObject}
use Rattle.property.specs.declared.Property.{Property}
use Rattle.property.specs.Descriptor.{is_uncallable, is_mixed}
use Rattle.property.specs.Validate.{applied, unmergeable}

-- the TypeError of 6.2.6.5 ToPropertyDescriptor ( Obj ) by its number, if it throws one
unfoldable pub conversion_message : DescriptorObject → Option ℕ
conversion_message o =
    cond (is_uncallable o.get) (Some 27)  -- 12.b
    (cond (is_uncallable o.set) (Some 28)  -- 14.b
    (cond (is_mixed o) (Some 29)  -- 15
    None))

-- boa's fill_with panics where the two cannot be merged
unfoldable pub fill_with : Property → PropertyDescriptor → Option Property
fill_with current d = cond (unmergeable current d) None (Some (applied d current))
