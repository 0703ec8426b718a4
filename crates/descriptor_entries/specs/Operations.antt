-- Completing, validating and merging descriptors by themselves: refusals 1 to 4 over the records, then 5, then 6. Assumes nothing.
use Rattle.std.specs.Prelude.{ℕ, Bool, List, [], ◌∷◌, Option, None, Some, Result, Ok, Err, ok_or}
use Rattle.property.specs.declared.Property.{Property}
use Rattle.property.specs.declared.PropertyDescriptor.{PropertyDescriptor}
use Rattle.property.specs.declared.Validation.{Validation}
use Rattle.property.specs.Answers.{fill_with}
use Rattle.property.specs.Descriptor.{complete}
use Rattle.property.specs.Validate.{validate, is_accepted, failed_test, settled, property_of}
use Rattle.record.specs.declared.Counts.{Counts}
use Rattle.descriptor_entries.specs.declared.operations.Verdict.{Verdict}
use Rattle.descriptor_entries.specs.Records.{one_descriptor, two_descriptors}

-- what follows, unless it is refused
infixl 10 ◌>>=◌
abbrev pub ◌>>=◌ : {A B : Type 0} → Result A ℕ → (A → Result B ℕ) → Result B ℕ
Ok x >>= f = f x
Err i >>= f = Err i

-- completing by itself
abbrev pub complete_record : Counts → List ℕ → Result Property ℕ
complete_record n bytes = do
  d ← one_descriptor n bytes
  Ok (complete d)

-- yes or no, the first test that fails, and the property after it
abbrev pub judged : Option Property → Validation → Verdict
judged current v = record { accepted = is_accepted v; failed_test = failed_test v; after = settled current v }

-- refusal 5: the current descriptor has not all fields of a data or of an accessor property
abbrev pub current_property : PropertyDescriptor → Result Property ℕ
current_property current = ok_or (property_of current) 5

-- validating by itself; no current record stands for an absent property
abbrev pub validate_records : Counts → Bool → List ℕ → List ℕ → Result Verdict ℕ
validate_records n extensible bytes [] = do
  d ← one_descriptor n bytes
  Ok (judged None (validate extensible d None))
validate_records n extensible bytes (b ∷ current) = do
  (d, over) ← two_descriptors n bytes (b ∷ current)
  p ← current_property over
  Ok (judged (Some p) (validate extensible d (Some p)))

-- merging by itself: boa's current.fill_with(desc)
-- refusal 6: one is data and the other an accessor
abbrev pub merge_records : Counts → List ℕ → List ℕ → Result Property ℕ
merge_records n current bytes = do
  (over, d) ← two_descriptors n current bytes
  p ← current_property over
  ok_or (fill_with p d) 6
