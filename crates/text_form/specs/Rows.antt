-- A row for each line: line, outcome, number, answers, calls, value. Assumes nothing.
use Rattle.std.specs.Prelude.{ℕ, List, [], ◌∷◌, ◌++◌}
use Rattle.property.specs.Descriptor.{descriptor_of, from_property_descriptor}
use Rattle.record.specs.Bytes.{value_bytes}
use Rattle.record.specs.Characters.{space, line_feed, decimal, hexadecimal}
use Rattle.record.specs.Descriptor.{descriptor_bytes}
use Rattle.steps.specs.Perform.{Result, value, descriptor, absent, keys, page}
use Rattle.steps.specs.Response.{Ending, refused, result, type_error, thrown, Response, outcome_of, outcome_number, refusal_or_message}
use Rattle.steps.specs.Step.{keys_bytes}

-- line outcome number answers calls value
abbrev pub heading : List ℕ
heading =
    108 ∷ 105 ∷ 110 ∷ 101 ∷ 32 ∷ 111 ∷ 117 ∷ 116 ∷ 99 ∷ 111 ∷ 109 ∷ 101 ∷ 32 ∷ 110 ∷ 117 ∷ 109 ∷ 98 ∷ 101 ∷ 114 ∷ 32
    ∷ 97 ∷ 110 ∷ 115 ∷ 119 ∷ 101 ∷ 114 ∷ 115 ∷ 32 ∷ 99 ∷ 97 ∷ 108 ∷ 108 ∷ 115 ∷ 32 ∷ 118 ∷ 97 ∷ 108 ∷ 117 ∷ 101 ∷ line_feed ∷ []

-- a result's value, complete descriptor or keys; a page is no result of a line
abbrev pub result_bytes : Result → List ℕ
result_bytes (value v) = value_bytes v
result_bytes (descriptor p) = descriptor_bytes (from_property_descriptor (descriptor_of p))
result_bytes absent = []
result_bytes (keys ks) = keys_bytes ks
result_bytes (page text) = []

abbrev pub ending_bytes : Ending → List ℕ
ending_bytes (refused n) = []
ending_bytes (result r) = result_bytes r
ending_bytes (type_error n) = []
ending_bytes (thrown v) = value_bytes v

-- a dash where there are none
abbrev pub value_cell : List ℕ → List ℕ
value_cell [] = 45 ∷ []
value_cell (b ∷ bytes) = hexadecimal (b ∷ bytes)

-- five numbers and the value's cell
unfoldable pub row_of : ℕ → ℕ → ℕ → ℕ → ℕ → List ℕ → List ℕ
row_of line outcome number answers calls bytes =
    decimal line
    ++ (space ∷ (decimal outcome
    ++ (space ∷ (decimal number
    ++ (space ∷ (decimal answers
    ++ (space ∷ (decimal calls
    ++ (space ∷ (value_cell bytes
    ++ (line_feed ∷ [])))))))))))

abbrev pub row : ℕ → Response → List ℕ
row line r = row_of line (outcome_number (outcome_of r.ending)) (refusal_or_message (outcome_of r.ending)) r.answers r.calls (ending_bytes r.ending)
