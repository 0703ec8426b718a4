-- What a caller reads: a response from a report and, where it counts keys or a page's bytes, from the output's bytes. Assumes nothing.
use Rattle.std.specs.Prelude.{ℕ, zero, suc, ◌+◌, List, [], ◌∷◌, take, Option, None, Some}
use Rattle.value.specs.declared.PropertyKey.{PropertyKey}
use Rattle.value.specs.declared.PropertyKey.TheVariants.{String}
use Rattle.value.specs.PropertyKey.{key_of}
use Rattle.record.specs.Bytes.{value_size, value_at}
use Rattle.steps.specs.declared.Completion.{Completion}
use Rattle.steps.specs.declared.Completion.TheVariants as completion
use Rattle.steps.specs.declared.Outcome.{Outcome}
use Rattle.steps.specs.declared.Outcome.TheVariants as outcome
use Rattle.steps.specs.declared.Report.{Report}
use Rattle.steps.specs.Perform.{Result, value, descriptor, absent, keys, page}
use Rattle.steps.specs.Response.{Ending, refused, result, type_error, thrown, Response}

-- every value reads as a key; one that is none, as string 0
abbrev pub key_told : Option PropertyKey → PropertyKey
key_told None = String 0
key_told (Some k) = k

-- n keys from i on, 9 bytes each
unfoldable pub keys_at : List ℕ → ℕ → ℕ → List PropertyKey
keys_at output i zero = []
keys_at output i (suc n) = key_told (key_of (value_at output i)) ∷ keys_at output (i + value_size) n

abbrev pub result_seen : List ℕ → Completion → Result
result_seen output (completion.Value v) = value v
result_seen output (completion.Descriptor p) = descriptor p
result_seen output completion.Absent = absent
result_seen output (completion.Keys n) = keys (keys_at output 0 n)
result_seen output (completion.Page n) = page (take n output)

abbrev pub ending_seen : List ℕ → Outcome → Ending
ending_seen output (outcome.Refused n) = refused n
ending_seen output (outcome.Result c) = result (result_seen output c)
ending_seen output (outcome.TypeError n) = type_error n
ending_seen output (outcome.Thrown v) = thrown v

abbrev pub response_seen : Report → List ℕ → Response
response_seen r output = record { ending = ending_seen output r.outcome; answers = r.answers; calls = r.calls }
