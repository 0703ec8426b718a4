-- Refusals 1 to 3 as one number, of a value, a part, a descriptor, an answer, a step and a sheet. Assumes nothing.
use Rattle.std.specs.Prelude.{ℕ, ◌+◌, ◌≡◌, Bool, true, false, cond, ◌&&◌, List, eqb, leb, ltb, Option, None, Some}
use Rattle.std.specs.Bool.{beq}
use Rattle.value.specs.declared.Value.{Value}
use Rattle.value.specs.Bits.{bit}
use Rattle.value.specs.PropertyKey.{key_of}
use Rattle.value.specs.Words.{kind_of, value_of, is_formed}
use Rattle.record.specs.Bytes.{value_at, is_value_at, is_part_at}
use Rattle.record.specs.Descriptor.{descriptor_at, is_descriptor_at}
use Rattle.record.specs.Tests.{Counts, is_made, is_known, descriptor_passes}
use Rattle.record.specs.Step.{step_of, is_at_most_if_integer32, is_step, are_objects_made, is_some, is_null_or_object, are_kinds_usable}
use Rattle.record.specs.Sheet.{values_at, are_values_at, key_count_at, answer_at, is_body_at, is_sheet, sheet_of, values_pass, answer_passes, sheet_passes}

-- the first of three tests that does not pass: 1 the form, 2 what was made, 3 what is known; 4 where all pass. Of several such numbers the least counts
abbrev pub first : Bool → Bool → Bool → ℕ
first false made known = 1
first true false known = 2
first true true false = 3
first true true true = 4

abbrev pub refusal_of : ℕ → Option ℕ
refusal_of n = cond (ltb n 4) (Some n) None

unfoldable pub value_refusal : Counts → ℕ → ℕ → ℕ
value_refusal n kind payload = first (is_formed kind payload) (is_made n (value_of kind payload)) (is_known n (value_of kind payload))

-- an object, or where it is to be callable a function
unfoldable pub named_refusal : Counts → ℕ → Bool → ℕ
named_refusal n object callable = first true (bit n.live object) (beq (bit n.callable object) callable)

-- a part that is not used is zero
unfoldable pub part_refusal : Bool → Counts → List ℕ → ℕ → ℕ
part_refusal used n bytes i = first (is_part_at used bytes i) (is_made n (value_at bytes i)) (is_known n (value_at bytes i))

-- a step's object
unfoldable pub object_refusal : Counts → ℕ → ℕ
object_refusal n object = first true (bit n.live object) true

-- a step's key, prototype and number, with the kinds that they may have
unfoldable pub key_refusal : Counts → List ℕ → ℕ
key_refusal n bytes = first (is_value_at bytes 2) (is_made n (value_at bytes 2)) (is_some (key_of (value_at bytes 2)) && is_known n (value_at bytes 2))

unfoldable pub prototype_refusal : Counts → List ℕ → ℕ
prototype_refusal n bytes = first (is_value_at bytes 11) (is_made n (value_at bytes 11)) (is_null_or_object (value_at bytes 11) && is_known n (value_at bytes 11))

-- a trap mask or an integrity level: an Integer32 from 0 to `most`
unfoldable pub bounded_refusal : ℕ → Counts → List ℕ → ℕ
bounded_refusal most n bytes = first (is_at_most_if_integer32 most (value_at bytes 11) && is_value_at bytes 11) (is_made n (value_at bytes 11)) (eqb (kind_of (value_at bytes 11)) 3 && is_known n (value_at bytes 11))

unfoldable pub descriptor_refusal : Counts → List ℕ → ℕ → ℕ
descriptor_refusal n bytes i = first (is_descriptor_at bytes i) (descriptor_passes (is_made n) (descriptor_at bytes i)) (descriptor_passes (is_known n) (descriptor_at bytes i))

-- of n values from i on
unfoldable pub values_refusal : Counts → List ℕ → ℕ → ℕ → ℕ
values_refusal counts bytes i n = first (are_values_at bytes i n) (values_pass (is_made counts) (values_at bytes i n)) (values_pass (is_known counts) (values_at bytes i n))

-- of the key list at i
unfoldable pub keys_refusal : Counts → List ℕ → ℕ → ℕ
keys_refusal counts bytes i = first (leb (key_count_at bytes i) 256 && are_values_at bytes (i + 3) (key_count_at bytes i)) (values_pass (is_made counts) (values_at bytes (i + 3) (key_count_at bytes i))) (values_pass (is_known counts) (values_at bytes (i + 3) (key_count_at bytes i)))

unfoldable pub answer_refusal : Counts → List ℕ → ℕ → ℕ
answer_refusal n bytes i = first (is_body_at bytes i) (answer_passes (is_made n) (answer_at bytes i)) (answer_passes (is_known n) (answer_at bytes i))

unfoldable pub step_refusal : Bool → Counts → List ℕ → ℕ
step_refusal proxy n bytes = first (is_step bytes) (are_objects_made n (step_of bytes)) (are_kinds_usable proxy n (step_of bytes))

-- of a step that passes, 14 where it releases an object that is named
abbrev pub release_refusal : Bool → ℕ → ℕ
release_refusal named n = cond (named && eqb n 4) 14 n

unfoldable pub sheet_refusal : Counts → List ℕ → ℕ
sheet_refusal n sheet = first (is_sheet sheet) (sheet_passes (is_made n) (sheet_of sheet)) (sheet_passes (is_known n) (sheet_of sheet))

-- what is answered of a value is what the test says
abbrev pub Decides : (Value → Bool) → (Value → Bool → Type 0) → Type 0
Decides test answers = (v : Value) (b : Bool) → answers v b → b ≡ test v
