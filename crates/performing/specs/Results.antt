-- How a method's end becomes an operation's. Assumes nothing.
use Rattle.std.specs.Prelude.{ℕ, ◌<◌, ◌≤◌, ◌^◌, ◌≡◌, Bool, true, ◌||◌, List, length, eqb, ltb, Result, Ok, Err, Option, None, Some}
use Rattle.value.specs.declared.Value.{Value}
use Rattle.value.specs.declared.Value.TheVariants as language
use Rattle.value.specs.PropertyKey.{key_of, key_number}
use Rattle.value.specs.Bits.{bit}
use Rattle.store.specs.Store.{maximum_properties}
use Rattle.store.specs.Words.{live_at, word_at}
use Rattle.record.specs.Bytes.{byte_at, value_at}
use Rattle.record.specs.Step.{releases}
use Rattle.internal_methods.specs.declared.Failure.{Failure}
use Rattle.calls.specs.declared.written.Written.{Written}
use Rattle.reporting.specs.declared.Performed.{Performed}
use Rattle.steps.specs.declared.Completion.{Completion}
use Rattle.steps.specs.declared.Completion.TheVariants as completion
use Rattle.steps.specs.Operation.{key_or_first}
use Rattle.property.specs.declared.Property.{Property}

-- what performing asks of the words, the allowance and the step's bytes
pub record Performable (words : List ℕ) (allowance : ℕ) (bytes : List ℕ) : Type 0 where
  pub allowed : allowance ≤ maximum_properties
  pub long : 58 ≤ length bytes
  pub live : releases (byte_at bytes 0) ≡ true → bit (word_at words live_at) (byte_at bytes 1) ≡ true
  pub key : key_number (key_or_first (key_of (value_at bytes 2))) < 2 ^ 58

-- the codes of the methods that write nothing and list no keys
unfoldable pub is_reading : ℕ → Bool
is_reading code = eqb code 4 || (eqb code 6 || (eqb code 8 || (eqb code 10 || eqb code 11)))

-- the codes that make, revoke or release an object
abbrev pub is_creation : ℕ → Bool
is_creation code = ltb code 4 || (eqb code 16 || eqb code 17)

abbrev pub value_result : Result Value Failure → Result Completion Failure
value_result (Err f) = Err f
value_result (Ok v) = Ok (completion.Value v)

abbrev pub boolean_result : Result Bool Failure → Result Completion Failure
boolean_result (Err f) = Err f
boolean_result (Ok b) = Ok (completion.Value (language.Boolean b))

abbrev pub own_completion : Option Property → Completion
own_completion None = completion.Absent
own_completion (Some p) = completion.Descriptor p

abbrev pub own_property_result : Result (Option Property) Failure → Result Completion Failure
own_property_result (Err f) = Err f
own_property_result (Ok p) = Ok (own_completion p)

abbrev pub write_result : Result Written Failure → Result Performed Failure
write_result (Err f) = Err f
write_result (Ok w) = Ok (record { completion = completion.Value (language.Boolean w.accepted); write = w.write })
