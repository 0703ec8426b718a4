-- A descriptor by itself as a record: what it reads as, and refusals 1 to 4 over one and over two. Assumes nothing.
use Rattle.std.specs.Prelude.{ℕ, Bool, ◌&&◌, List, [], ◌∷◌, eqb, length, Option, None, Some, Result, Ok, Err}
use Rattle.property.specs.declared.PropertyDescriptor.{PropertyDescriptor}
use Rattle.property.specs.Descriptor.{to_property_descriptor}
use Rattle.record.specs.declared.Counts.{Counts}
use Rattle.record.specs.Descriptor.{descriptor_size, descriptor_at, is_descriptor_at}
use Rattle.record.specs.Tests.{is_made, is_known, descriptor_passes, is_descriptor, first_failing}

-- refusal 1 over one record, and 2 to 4
abbrev pub is_record : List ℕ → Bool
is_record bytes = eqb (length bytes) descriptor_size && is_descriptor_at bytes 0

abbrev pub are_made : Counts → List ℕ → Bool
are_made n bytes = descriptor_passes (is_made n) (descriptor_at bytes 0)

abbrev pub are_known : Counts → List ℕ → Bool
are_known n bytes = descriptor_passes (is_known n) (descriptor_at bytes 0)

abbrev pub is_usable : List ℕ → Bool
is_usable bytes = is_descriptor (descriptor_at bytes 0)

abbrev pub descriptor_of : List ℕ → PropertyDescriptor
descriptor_of bytes = to_property_descriptor (descriptor_at bytes 0)

-- the refusal over one record; over two each number is tested over both before the next
abbrev pub one_refusal : Counts → List ℕ → Option ℕ
one_refusal n a = first_failing ((1, is_record a) ∷ (2, are_made n a) ∷ (3, are_known n a) ∷ (4, is_usable a) ∷ [])

abbrev pub two_refusal : Counts → List ℕ → List ℕ → Option ℕ
two_refusal n a b = first_failing ((1, is_record a && is_record b) ∷ (2, are_made n a && are_made n b) ∷ (3, are_known n a && are_known n b) ∷ (4, is_usable a && is_usable b) ∷ [])

-- the value, unless it is refused
abbrev pub unless : {A : Type 0} → Option ℕ → A → Result A ℕ
unless (Some i) x = Err i
unless None x = Ok x

unfoldable pub one_descriptor : Counts → List ℕ → Result PropertyDescriptor ℕ
one_descriptor n bytes = unless (one_refusal n bytes) (descriptor_of bytes)

unfoldable pub two_descriptors : Counts → List ℕ → List ℕ → Result (PropertyDescriptor × PropertyDescriptor) ℕ
two_descriptors n a b = unless (two_refusal n a b) (descriptor_of a, descriptor_of b)
