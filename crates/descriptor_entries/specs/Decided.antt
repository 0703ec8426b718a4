-- Demand 1 of completing, validating and merging by themselves: which records are refused, with which number, and why; and which test of
-- validation is told. Assumes nothing.
use Rattle.std.specs.Prelude.{ℕ, ◌<◌, ◌≡◌, ◌↔◌, Bool, true, false, not, ◌&&◌, ◌||◌, List, [], ◌∷◌, Option, None, Some, Err}
use Rattle.property.specs.declared.PropertyDescriptor.{PropertyDescriptor}
use Rattle.property.specs.declared.DescriptorKind.{DescriptorKind}
use Rattle.property.specs.declared.DescriptorKind.TheVariants.{Generic, Data, Accessor}
use Rattle.property.specs.Fields.{has}
use Rattle.property.specs.Descriptor.{is_accessor_descriptor, is_data_descriptor}
use Rattle.property.specs.Validate.{property_of}
use Rattle.property.specs.FirstTest.{Fails, FirstFails}
use Rattle.record.specs.declared.Counts.{Counts}
use Rattle.descriptor_entries.specs.Records.{descriptor_of, one_refusal, two_refusal}
use Rattle.descriptor_entries.specs.Operations.{complete_record, validate_records, merge_records}
use Rattle.descriptor_entries.specs.Entries.{is_accepted, failed_test}
use Rattle.property.specs.declared.Property.{Property}

-- 5: it has neither all fields of a data property nor all of an accessor
abbrev pub lacks_in : DescriptorKind → Bool
lacks_in Generic = true
lacks_in (Data v w) = not (has v) || not (has w)
lacks_in (Accessor g s) = not (has g) || not (has s)

abbrev pub lacks : PropertyDescriptor → Bool
lacks d = lacks_in d.kind || (not (has d.enumerable) || not (has d.configurable))

-- 6: one is data, the other an accessor
abbrev pub are_of_two_kinds : PropertyDescriptor → PropertyDescriptor → Bool
are_of_two_kinds current d = (is_data_descriptor current && is_accessor_descriptor d) || (is_accessor_descriptor current && is_data_descriptor d)

-- the conditions by their numbers
pub data CompleteRefusal (n : Counts) (bytes : List ℕ) : ℕ → Type 0 where
  inadmissible : {i : ℕ} → one_refusal n bytes ≡ Some i → CompleteRefusal n bytes i

pub data ValidateRefusal (n : Counts) (bytes current : List ℕ) : ℕ → Type 0 where
  -- no current record: the property is absent
  inadmissible-alone : {i : ℕ} → current ≡ [] → one_refusal n bytes ≡ Some i → ValidateRefusal n bytes current i
  inadmissible : {i b : ℕ} {rest : List ℕ} → current ≡ b ∷ rest → two_refusal n bytes current ≡ Some i → ValidateRefusal n bytes current i
  lacking : {b : ℕ} {rest : List ℕ} → current ≡ b ∷ rest → two_refusal n bytes current ≡ None → lacks (descriptor_of current) ≡ true → ValidateRefusal n bytes current 5

pub data MergeRefusal (n : Counts) (current bytes : List ℕ) : ℕ → Type 0 where
  inadmissible : {i : ℕ} → two_refusal n current bytes ≡ Some i → MergeRefusal n current bytes i
  lacking : two_refusal n current bytes ≡ None → lacks (descriptor_of current) ≡ true → MergeRefusal n current bytes 5
  mixed : two_refusal n current bytes ≡ None → lacks (descriptor_of current) ≡ false → are_of_two_kinds (descriptor_of current) (descriptor_of bytes) ≡ true → MergeRefusal n current bytes 6

-- validating is not refused
abbrev pub Unrefused : Counts → List ℕ → List ℕ → Type 0
Unrefused n bytes current = (j : ℕ) → ValidateRefusal n bytes current j → ⊥

-- the property that is validated over; no current record stands for an absent one
abbrev pub current_of : List ℕ → Option Property
current_of [] = None
current_of (b ∷ rest) = (property_of (descriptor_of (b ∷ rest)))

-- the refusal is i exactly if the condition numbered i holds; the test that is told is i exactly if nothing is refused and test i is the first that fails;
-- the answer is yes exactly if nothing is refused and no test fails
pub record DescriptorsDecided (n : Counts) (extensible : Bool) (bytes current : List ℕ) : Type 0 where
  pub completes : (i : ℕ) → (complete_record n bytes ≡ Err i) ↔ CompleteRefusal n bytes i
  pub validates : (i : ℕ) → (validate_records n extensible bytes current ≡ Err i) ↔ ValidateRefusal n bytes current i
  pub tests : (i : ℕ) → 0 < i → (failed_test (validate_records n extensible bytes current) ≡ i) ↔ (Unrefused n bytes current × FirstFails extensible (descriptor_of bytes) (current_of current) i)
  pub accepts : (is_accepted (validate_records n extensible bytes current) ≡ true) ↔ (Unrefused n bytes current × ((i : ℕ) → Fails extensible (descriptor_of bytes) (current_of current) i → ⊥))
  pub merges : (i : ℕ) → (merge_records n current bytes ≡ Err i) ↔ MergeRefusal n current bytes i
