-- The answers of a sheet that is well formed are those that the reader tells. Assumes nothing.
use Prim.Native.Nat.{ℕ, zero, suc}
use mathlib.Core.Path.{◌≡◌, refl, ap}
use mathlib.Core.Bool.{Bool, true, false, ◌&&◌}
use mathlib.Core.List.{List, ◌∷◌}
use lib.Dec.{leb, ltb}
use lib.ListN.{length}
use Rattle.value.specs.Words.{pick}
use Rattle.value.proofs.Bools.{and-true}
use Rattle.internal_methods.specs.Monad.{Answer}
use Rattle.record.specs.Bytes.{byte_at}
use Rattle.record.specs.Sheet.{answer_at, answer_end, is_body_at, is_answer_at, answers_at, are_answers_at, maximum_answers, sheet_of, is_sheet}
use Rattle.sheet.specs.Next.{missing, answers_from}

pub from-length : (b : List ℕ) (i n : ℕ) → length (answers_from b i n) ≡ n
unfolding answers_from
from-length b i zero = refl
from-length b i (suc n) = by (leb (answer_end b i) (length b)) _ _ (from-length b (answer_end b i) n) (from-length b i n)
  where
    by : (t : Bool) (l k : List Answer) → length l ≡ n → length k ≡ n → length (pick t (answer_at b i ∷ l) (missing ∷ k)) ≡ suc n
    by true l k p q = ap suc p
    by false l k p q = ap suc q

pub from-same : (b : List ℕ) (i n : ℕ) → are_answers_at b i n ≡ true → answers_from b i n ≡ answers_at b i n
unfolding answers_from answers_at are_answers_at is_answer_at
from-same b i zero h = refl
from-same b i (suc n) h =
    let (here, rest) = and-true (is_answer_at b i) (are_answers_at b (answer_end b i) n) h in
    let (fits, _) = and-true (leb (answer_end b i) (length b)) (is_body_at b i) here in
    rw (fits, from-same b (answer_end b i) n rest)

module _ (b : List ℕ) (h : is_sheet b ≡ true) where
  pub sheet-from : answers_from b 1 (byte_at b 0) ≡ sheet_of b
  unfolding sheet_of is_sheet
  sheet-from =
      let (_, more) = and-true (ltb 0 (length b)) (leb (byte_at b 0) maximum_answers && are_answers_at b 1 (byte_at b 0)) h in
      from-same b 1 (byte_at b 0) (and-true (leb (byte_at b 0) maximum_answers) (are_answers_at b 1 (byte_at b 0)) more).1
