-- A sheet that is well formed has as many answers as its first byte says. Assumes nothing.
use Prim.Native.Nat.{ℕ, zero, suc}
use mathlib.Core.Path.{◌≡◌, refl, ap}
use mathlib.Core.Bool.{true, ◌&&◌}
use mathlib.Core.List.{List}
use lib.Dec.{leb, ltb}
use lib.ListN.{length}
use Rattle.value.proofs.Bools.{and-true}
use Rattle.record.specs.Bytes.{byte_at}
use Rattle.record.specs.Sheet.{answer_end, is_body_at, is_answer_at, answers_at, are_answers_at, maximum_answers, sheet_of, is_sheet}

answers-length : (b : List ℕ) (i n : ℕ) → are_answers_at b i n ≡ true → length (answers_at b i n) ≡ n
unfolding answers_at are_answers_at is_answer_at
answers-length b i zero h = refl
answers-length b i (suc n) h =
    let (here, rest) = and-true (is_answer_at b i) (are_answers_at b (answer_end b i) n) h in
    let (fits, _) = and-true (leb (answer_end b i) (length b)) (is_body_at b i) here in
    rw fits (ap suc (answers-length b (answer_end b i) n rest))

pub sheet-length : (b : List ℕ) → is_sheet b ≡ true → length (sheet_of b) ≡ byte_at b 0
unfolding sheet_of is_sheet
sheet-length b h =
    let (_, more) = and-true (ltb 0 (length b)) (leb (byte_at b 0) maximum_answers && are_answers_at b 1 (byte_at b 0)) h in
    answers-length b 1 (byte_at b 0) (and-true (leb (byte_at b 0) maximum_answers) (are_answers_at b 1 (byte_at b 0)) more).1
