-- An answer sheet: a count, then that many answers; its length is exact. Assumes nothing.
use Rattle.std.specs.Prelude.{ℕ, zero, suc, ◌+◌, ◌*◌, Bool, true, false, ◌&&◌, List, [], ◌∷◌, ◌++◌, eqb, leb, ltb, length}
use Rattle.value.specs.declared.Value.{Value}
use Rattle.value.specs.Words.{pick}
use Rattle.internal_methods.specs.Monad.{Answer, value, descriptor, keys, throw}
use Rattle.record.specs.Bytes.{byte_at, number_at, bytes_of, value_size, value_at, is_value_at, value_bytes}
use Rattle.record.specs.Descriptor.{descriptor_size, descriptor_at, is_descriptor_at, descriptor_bytes}
use Rattle.record.specs.Tests.{descriptor_passes}

-- n values from i on
unfoldable pub values_at : List ℕ → ℕ → ℕ → List Value
values_at bytes i zero = []
values_at bytes i (suc n) = value_at bytes i ∷ values_at bytes (i + value_size) n

unfoldable pub are_values_at : List ℕ → ℕ → ℕ → Bool
are_values_at bytes i zero = true
are_values_at bytes i (suc n) = is_value_at bytes i && are_values_at bytes (i + value_size) n

-- how many keys the list at i has
abbrev pub key_count_at : List ℕ → ℕ → ℕ
key_count_at bytes i = number_at bytes (i + 1) 2

-- the answer at i: 1 a value, 2 a descriptor, 3 a key list, 4 a thrown value
unfoldable pub answer_at : List ℕ → ℕ → Answer
answer_at bytes i =
    pick (eqb (byte_at bytes i) 1) (value (value_at bytes (i + 1)))
    (pick (eqb (byte_at bytes i) 2) (descriptor (descriptor_at bytes (i + 1)))
    (pick (eqb (byte_at bytes i) 3) (keys (values_at bytes (i + 3) (key_count_at bytes i)))
    (throw (value_at bytes (i + 1)))))

-- where the answer at i ends
unfoldable pub answer_end : List ℕ → ℕ → ℕ
answer_end bytes i =
    pick (eqb (byte_at bytes i) 2) (i + 1 + descriptor_size)
    (pick (eqb (byte_at bytes i) 3) (i + 3 + value_size * key_count_at bytes i)
    (i + 1 + value_size))

-- the values and the descriptor of the answer at i are well formed
abbrev pub is_body_at : List ℕ → ℕ → Bool
is_body_at bytes i =
    pick (eqb (byte_at bytes i) 1) (is_value_at bytes (i + 1))
    (pick (eqb (byte_at bytes i) 2) (is_descriptor_at bytes (i + 1))
    (pick (eqb (byte_at bytes i) 3) (leb (key_count_at bytes i) 256 && are_values_at bytes (i + 3) (key_count_at bytes i))
    (pick (eqb (byte_at bytes i) 4) (is_value_at bytes (i + 1))
    false)))

-- refusal 1 over the answer at i
unfoldable pub is_answer_at : List ℕ → ℕ → Bool
is_answer_at bytes i = leb (answer_end bytes i) (length bytes) && is_body_at bytes i

-- n answers from i on, as far as they are there
unfoldable pub answers_at : List ℕ → ℕ → ℕ → List Answer
answers_at bytes i zero = []
answers_at bytes i (suc n) = pick (leb (answer_end bytes i) (length bytes)) (answer_at bytes i ∷ answers_at bytes (answer_end bytes i) n) []

unfoldable pub are_answers_at : List ℕ → ℕ → ℕ → Bool
are_answers_at bytes i zero = eqb i (length bytes)
are_answers_at bytes i (suc n) = is_answer_at bytes i && are_answers_at bytes (answer_end bytes i) n

abbrev pub maximum_answers : ℕ
maximum_answers = 64

unfoldable pub sheet_of : List ℕ → List Answer
sheet_of bytes = answers_at bytes 1 (byte_at bytes 0)

-- refusal 1 over the sheet
unfoldable pub is_sheet : List ℕ → Bool
is_sheet bytes = ltb 0 (length bytes) && (leb (byte_at bytes 0) maximum_answers && are_answers_at bytes 1 (byte_at bytes 0))

unfoldable pub values_pass : (Value → Bool) → List Value → Bool
values_pass test [] = true
values_pass test (v ∷ vs) = test v && values_pass test vs

abbrev pub answer_passes : (Value → Bool) → Answer → Bool
answer_passes test (value v) = test v
answer_passes test (descriptor d) = descriptor_passes test d
answer_passes test (keys vs) = values_pass test vs
answer_passes test (throw v) = test v

unfoldable pub sheet_passes : (Value → Bool) → List Answer → Bool
sheet_passes test [] = true
sheet_passes test (a ∷ rest) = answer_passes test a && sheet_passes test rest

unfoldable pub values_bytes : List Value → List ℕ
values_bytes [] = []
values_bytes (v ∷ vs) = value_bytes v ++ values_bytes vs

unfoldable pub answer_bytes : Answer → List ℕ
answer_bytes (value v) = 1 ∷ value_bytes v
answer_bytes (descriptor d) = 2 ∷ descriptor_bytes d
answer_bytes (keys vs) = 3 ∷ (bytes_of 2 (length vs) ++ values_bytes vs)
answer_bytes (throw v) = 4 ∷ value_bytes v

unfoldable pub answers_bytes : List Answer → List ℕ
answers_bytes [] = []
answers_bytes (a ∷ rest) = answer_bytes a ++ answers_bytes rest

-- the bytes of a sheet
unfoldable pub sheet_bytes : List Answer → List ℕ
sheet_bytes answers = length answers ∷ answers_bytes answers
