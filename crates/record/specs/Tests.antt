-- Refusals 2, 3 and 4 over a value and a descriptor. Assumes nothing.
use Rattle.std.specs.Prelude.{ℕ, List, [], ◌∷◌, Bool, true, false, not, ◌&&◌, ltb, Option, None, Some}
use Rattle.value.specs.Bits.{bit}
use Rattle.value.specs.declared.Value.{Value}
use Rattle.value.specs.declared.Value.TheVariants.{Undefined, Null, Boolean, Integer32, Float64, String, Symbol, Object, Function}
use Rattle.property.specs.declared.DescriptorObject.{DescriptorObject}
use Rattle.property.specs.Descriptor.{is_uncallable, is_mixed}
use Rattle.record.specs.declared.Counts as counts

-- which objects are live and which are callable, and how many strings there are
abbrev pub Counts : Type 0
Counts = counts.Counts

-- refusal 2 unless the object or function that a value names is live
unfoldable pub is_made : Counts → Value → Bool
is_made n Undefined = true
is_made n Null = true
is_made n (Boolean b) = true
is_made n (Integer32 i) = true
is_made n (Float64 x) = true
is_made n (String s) = true
is_made n (Symbol s) = true
is_made n (Object o) = bit n.live o
is_made n (Function f) = bit n.live f

-- refusal 3 unless a string is in the table, a symbol one of the 256, and what is named as a function callable, and as an object not
unfoldable pub is_known : Counts → Value → Bool
is_known n Undefined = true
is_known n Null = true
is_known n (Boolean b) = true
is_known n (Integer32 i) = true
is_known n (Float64 x) = true
is_known n (String s) = ltb s n.strings
is_known n (Symbol s) = ltb s 256
is_known n (Object o) = not (bit n.callable o)
is_known n (Function f) = bit n.callable f

abbrev pub field_passes : (Value → Bool) → Option Value → Bool
field_passes test None = true
field_passes test (Some v) = test v

-- a test of the values of a descriptor
abbrev pub descriptor_passes : (Value → Bool) → DescriptorObject → Bool
descriptor_passes test d = field_passes test d.value && (field_passes test d.get && field_passes test d.set)

-- refusal 4 unless the fields of data and accessor are apart, and get and set can be called or are undefined
unfoldable pub is_descriptor : DescriptorObject → Bool
is_descriptor d = not (is_mixed d) && (not (is_uncallable d.get) && not (is_uncallable d.set))

-- the number of a test that does not pass, or what the later tests give
abbrev pub failing : Bool → ℕ → Option ℕ → Option ℕ
failing false n later = Some n
failing true n later = later

-- the number of the first test that does not pass
unfoldable pub first_failing : List (ℕ × Bool) → Option ℕ
first_failing [] = None
first_failing (t ∷ ts) = failing t.1 t.0 (first_failing ts)
