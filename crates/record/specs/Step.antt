-- A step is 58 bytes: code, object, key, value, receiver, descriptor. Assumes nothing.
use Rattle.std.specs.Prelude.{ℕ, Bool, true, false, not, ◌&&◌, ◌||◌, cond, List, ◌∷◌, ◌++◌, eqb, leb, pos, negsuc, length, Option, None, Some}
use Rattle.value.specs.declared.Value.{Value}
use Rattle.value.specs.declared.Value.TheVariants.{Undefined, Null, Boolean, Integer32, Float64, String, Symbol, Object, Function}
use Rattle.value.specs.Bits.{bit}
use Rattle.value.specs.PropertyKey.{key_of}
use Rattle.value.specs.Words.{kind_of}
use Rattle.record.specs.declared.Step.{Step}
use Rattle.record.specs.Bytes.{byte_at, are_zero, value_at, is_part_at, value_bytes}
use Rattle.record.specs.Descriptor.{descriptor_size, descriptor_at, is_descriptor_at, descriptor_bytes}
use Rattle.record.specs.Tests.{Counts, is_made, is_known, descriptor_passes}

abbrev pub step_size : ℕ
step_size = 58

unfoldable pub step_of : List ℕ → Step
step_of bytes = record {
  code = byte_at bytes 0;
  object = byte_at bytes 1;
  key = value_at bytes 2;
  value = value_at bytes 11;
  receiver = value_at bytes 20;
  descriptor = descriptor_at bytes 29;
}

-- the codes, by the parts that they use
abbrev pub makes_ordinary : ℕ → Bool
makes_ordinary code = eqb code 1 || eqb code 16

abbrev pub releases : ℕ → Bool
releases code = eqb code 17

abbrev pub uses_object : ℕ → Bool
uses_object code = not (makes_ordinary code)

abbrev pub uses_key : ℕ → Bool
uses_key code = leb 8 code && leb code 13

abbrev pub uses_prototype : ℕ → Bool
uses_prototype code = makes_ordinary code || eqb code 5

abbrev pub uses_mask : ℕ → Bool
uses_mask code = eqb code 2

abbrev pub uses_level : ℕ → Bool
uses_level code = eqb code 18 || eqb code 19

abbrev pub uses_value : ℕ → Bool
uses_value code = uses_prototype code || (uses_mask code || (uses_level code || eqb code 12))

abbrev pub uses_receiver : ℕ → Bool
uses_receiver code = eqb code 11 || eqb code 12

abbrev pub uses_descriptor : ℕ → Bool
uses_descriptor code = eqb code 9

-- a value that is an Integer32 is 0 to `most`
unfoldable pub is_at_most_if_integer32 : ℕ → Value → Bool
is_at_most_if_integer32 most Undefined = true
is_at_most_if_integer32 most Null = true
is_at_most_if_integer32 most (Boolean b) = true
is_at_most_if_integer32 most (Integer32 (pos n)) = leb n most
is_at_most_if_integer32 most (Integer32 (negsuc n)) = false
is_at_most_if_integer32 most (Float64 x) = true
is_at_most_if_integer32 most (String s) = true
is_at_most_if_integer32 most (Symbol s) = true
is_at_most_if_integer32 most (Object o) = true
is_at_most_if_integer32 most (Function f) = true

abbrev pub unless : Bool → Bool → Bool
unless used test = not used || test

abbrev pub is_code : ℕ → Bool
is_code code = (leb 1 code && leb code 14) || (eqb code 16 || (releases code || uses_level code))

-- the object, the values and the descriptor, each zero where the code does not use it
abbrev pub is_object_formed : ℕ → ℕ → Bool
is_object_formed code object = uses_object code || eqb object 0

abbrev pub are_values_formed : ℕ → List ℕ → Bool
are_values_formed code bytes = is_part_at (uses_key code) bytes 2 && (is_part_at (uses_value code) bytes 11 && is_part_at (uses_receiver code) bytes 20)

abbrev pub is_descriptor_formed : ℕ → List ℕ → Bool
is_descriptor_formed code bytes = cond (uses_descriptor code) (is_descriptor_at bytes 29) (are_zero bytes 29 descriptor_size)

-- a trap mask is 0 to 2047
abbrev pub is_mask_formed : ℕ → List ℕ → Bool
is_mask_formed code bytes = unless (uses_mask code) (is_at_most_if_integer32 2047 (value_at bytes 11))

-- an integrity level is 0, sealed, or 1, frozen
abbrev pub is_level_formed : ℕ → List ℕ → Bool
is_level_formed code bytes = unless (uses_level code) (is_at_most_if_integer32 1 (value_at bytes 11))

-- refusal 1 over the step
unfoldable pub is_step : List ℕ → Bool
is_step bytes =
    eqb (length bytes) step_size
    && (is_code (byte_at bytes 0)
    && (is_object_formed (byte_at bytes 0) (byte_at bytes 1)
    && (are_values_formed (byte_at bytes 0) bytes
    && (is_descriptor_formed (byte_at bytes 0) bytes
    && (is_mask_formed (byte_at bytes 0) bytes
    && is_level_formed (byte_at bytes 0) bytes)))))

-- the values of a step pass a test
abbrev pub step_passes : (Value → Bool) → Step → Bool
step_passes test s = test s.key && (test s.value && (test s.receiver && descriptor_passes test s.descriptor))

-- refusal 2 over the step
unfoldable pub are_objects_made : Counts → Step → Bool
are_objects_made n s = unless (uses_object s.code) (bit n.live s.object) && step_passes (is_made n) s

abbrev pub is_some : {A : Type 0} → Option A → Bool
is_some None = false
is_some (Some a) = true

abbrev pub is_null_or_object : Value → Bool
is_null_or_object v = eqb (kind_of v) 1 || (eqb (kind_of v) 7 || eqb (kind_of v) 8)

-- the kinds that each code asks for
abbrev pub is_key_usable : Step → Bool
is_key_usable s = unless (uses_key s.code) (is_some (key_of s.key))

abbrev pub is_prototype_usable : Step → Bool
is_prototype_usable s = unless (uses_prototype s.code) (is_null_or_object s.value)

abbrev pub is_mask_usable : Step → Bool
is_mask_usable s = unless (uses_mask s.code) (eqb (kind_of s.value) 3)

abbrev pub is_level_usable : Step → Bool
is_level_usable s = unless (uses_level s.code) (eqb (kind_of s.value) 3)

-- `proxy` says whether the step's object is one
abbrev pub is_object_usable : Bool → Step → Bool
is_object_usable proxy s = unless (eqb s.code 3) proxy

-- a proxy is over no function
abbrev pub is_target_usable : Counts → Step → Bool
is_target_usable n s = unless (uses_mask s.code) (not (bit n.callable s.object))

-- refusal 3 over the step: known numbers, and kinds that the step can use
unfoldable pub are_kinds_usable : Bool → Counts → Step → Bool
are_kinds_usable proxy n s =
    step_passes (is_known n) s
    && (is_key_usable s && (is_prototype_usable s && (is_mask_usable s && (is_level_usable s && (is_object_usable proxy s && is_target_usable n s)))))

-- refusal 14 over the step: `named` says whether an object names the step's object
abbrev pub is_releasable : Bool → Step → Bool
is_releasable named s = unless (releases s.code) (not named)

-- the 58 bytes of a step
unfoldable pub step_bytes : Step → List ℕ
step_bytes s = s.code ∷ s.object ∷ (value_bytes s.key ++ (value_bytes s.value ++ (value_bytes s.receiver ++ descriptor_bytes s.descriptor)))
