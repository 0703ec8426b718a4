-- A descriptor is 29 bytes: a presence mask, a byte of booleans, then value, get and set. Assumes nothing.
use Rattle.std.specs.Prelude.{ℕ, ◌+◌, Bool, true, false, not, ◌&&◌, ◌||◌, List, ◌∷◌, ◌++◌, ltb, Option, None, Some}
use Rattle.value.specs.Bits.{bit, weight}
use Rattle.value.specs.declared.Value.TheVariants.{Undefined}
use Rattle.property.specs.declared.DescriptorObject.{DescriptorObject}
use Rattle.property.specs.Fields.{has, is_true, or_else}
use Rattle.record.specs.Bytes.{byte_at, value_at, is_part_at, value_bytes}
use Rattle.value.specs.declared.Value.{Value}

abbrev pub descriptor_size : ℕ
descriptor_size = 29

abbrev pub flag_of : Bool → Bool → Option Bool
flag_of true b = Some b
flag_of false b = None

abbrev pub field_of : Bool → List ℕ → ℕ → Option Value
field_of true bytes i = Some (value_at bytes i)
field_of false bytes i = None

-- mask bits: enumerable 1, configurable 2, writable 4, value 8, get 16, set 32
unfoldable pub descriptor_at : List ℕ → ℕ → DescriptorObject
descriptor_at bytes i = record {
  enumerable = flag_of (bit (byte_at bytes i) 0) (bit (byte_at bytes (i + 1)) 0);
  configurable = flag_of (bit (byte_at bytes i) 1) (bit (byte_at bytes (i + 1)) 1);
  writable = flag_of (bit (byte_at bytes i) 2) (bit (byte_at bytes (i + 1)) 2);
  value = field_of (bit (byte_at bytes i) 3) bytes (i + 2);
  get = field_of (bit (byte_at bytes i) 4) bytes (i + 11);
  set = field_of (bit (byte_at bytes i) 5) bytes (i + 20);
}

-- a boolean stands only where the mask has its bit
abbrev pub is_flag_formed : ℕ → ℕ → ℕ → Bool
is_flag_formed mask flags j = bit mask j || not (bit flags j)

abbrev pub are_flags_formed : ℕ → ℕ → Bool
are_flags_formed mask flags = is_flag_formed mask flags 0 && (is_flag_formed mask flags 1 && is_flag_formed mask flags 2)

abbrev pub are_parts_formed : ℕ → List ℕ → ℕ → Bool
are_parts_formed mask bytes i =
    is_part_at (bit mask 3) bytes (i + 2) && (is_part_at (bit mask 4) bytes (i + 11) && is_part_at (bit mask 5) bytes (i + 20))

-- refusal 1 over a descriptor
unfoldable pub is_descriptor_at : List ℕ → ℕ → Bool
is_descriptor_at bytes i =
    ltb (byte_at bytes i) 64
    && (ltb (byte_at bytes (i + 1)) 8
    && (are_flags_formed (byte_at bytes i) (byte_at bytes (i + 1))
    && are_parts_formed (byte_at bytes i) bytes i))

-- the presence mask, and the byte of booleans
abbrev pub mask_of : DescriptorObject → ℕ
mask_of d =
    weight (has d.enumerable) 1 + weight (has d.configurable) 2 + weight (has d.writable) 4
    + weight (has d.value) 8 + weight (has d.get) 16 + weight (has d.set) 32

abbrev pub flags_of : DescriptorObject → ℕ
flags_of d = weight (is_true d.enumerable) 1 + weight (is_true d.configurable) 2 + weight (is_true d.writable) 4

-- the 29 bytes of a descriptor; an absent part is undefined, whose bytes are zero
unfoldable pub descriptor_bytes : DescriptorObject → List ℕ
descriptor_bytes d =
    mask_of d ∷ flags_of d
    ∷ (value_bytes (or_else d.value Undefined)
    ++ (value_bytes (or_else d.get Undefined) ++ value_bytes (or_else d.set Undefined)))
