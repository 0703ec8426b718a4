-- What the reader of the next answer tells of a sheet. Assumes nothing.
use Rattle.std.specs.Prelude.{ℕ, zero, suc, ◌+◌, ◌-◌, ◌*◌, ◌<◌, ◌≤◌, ◌≡◌, List, [], ◌∷◌, leb, length, Option, None, Some}
use Rattle.std.specs.Bool.{then_some}
use Rattle.value.specs.declared.Value.TheVariants.{Undefined}
use Rattle.value.specs.Words.{pick}
use Rattle.internal_methods.specs.Monad.{Answer, value, descriptor, keys, throw}
use Rattle.sheet.specs.declared.NextAnswer.{NextAnswer}
use Rattle.sheet.specs.declared.Answer.{Answer as ReadAnswer}
use Rattle.sheet.specs.declared.Answer.TheVariants as read
use Rattle.record.specs.Bytes.{value_size}
use Rattle.record.specs.Sheet.{values_at, answer_at, answer_end}

-- the end e, if it is within n bytes
abbrev pub end_within : ℕ → ℕ → Option ℕ
end_within n e = then_some (leb e n) e

-- what is read where no answer is within the sheet
abbrev pub missing : Answer
missing = throw Undefined

-- the n answers from i on; of a sheet that is well formed, those that it has
unfoldable pub answers_from : List ℕ → ℕ → ℕ → List Answer
answers_from bytes i zero = []
answers_from bytes i (suc n) =
    pick (leb (answer_end bytes i) (length bytes)) (answer_at bytes i ∷ answers_from bytes (answer_end bytes i) n) (missing ∷ answers_from bytes i n)

-- what is read stands for
abbrev pub answer_of : List ℕ → ReadAnswer → Answer
answer_of bytes (read.Value v) = value v
answer_of bytes (read.Descriptor d) = descriptor d
answer_of bytes (read.Keys first n) = keys (values_at bytes first n)
answer_of bytes (read.Throw v) = throw v

-- the answers that it tells of, of which there are `left` to come
abbrev pub told : List ℕ → ℕ → Option NextAnswer → List Answer
told bytes left None = []
told bytes left (Some r) = answer_of bytes r.answer ∷ answers_from bytes r.end (left - 1)

-- there was an answer to come
abbrev pub Onward : ℕ → Option NextAnswer → Type 0
Onward left None = left ≡ 0
Onward left (Some r) = 0 < left

abbrev pub AreKeysWithin : List ℕ → ReadAnswer → Type 0
AreKeysWithin bytes (read.Value v) = Unit {0}
AreKeysWithin bytes (read.Descriptor d) = Unit {0}
AreKeysWithin bytes (read.Keys first n) = first + value_size * n ≤ length bytes
AreKeysWithin bytes (read.Throw v) = Unit {0}

abbrev pub KeysWithin : List ℕ → Option NextAnswer → Type 0
KeysWithin bytes None = Unit {0}
KeysWithin bytes (Some r) = AreKeysWithin bytes r.answer

-- what the reader ensures of what it gives for the place `at` with `left` answers to come
pub record Next (bytes : List ℕ) (at left : ℕ) (r : Option NextAnswer) : Type 0 where
  pub tells : answers_from bytes at left ≡ told bytes left r
  pub onward : Onward left r
  pub within : KeysWithin bytes r
