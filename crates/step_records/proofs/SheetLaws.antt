-- Refusals 1 to 3 over a sheet, one value and one answer at a time. Assumes nothing.
use Prim.Native.Nat.{ℕ, suc, ◌+◌, ◌-◌, ◌<◌, ◌≤◌, min}
use native.Mathlib.Omega.{arith}
use mathlib.Core.Path.{◌≡◌, ap, ◌∙◌}
use mathlib.Core.Bool.{cond}
use mathlib.Core.List.{List}
use lib.Dec.{eqb}
use lib.ListN.{length}
use borrow.Author.Tests.{le-leb, lt-leb, lt-ltb}
use Rattle.record.specs.Bytes.{byte_at, number_at, value_at, is_value_at}
use Rattle.record.specs.Tests.{Counts, is_made, is_known}
use Rattle.record.specs.Sheet.{values_at, are_values_at, answer_end, is_answer_at, answers_at, are_answers_at, sheet_of, is_sheet, values_pass, sheet_passes}
use Rattle.step_records.specs.Refusals.{first, value_refusal, values_refusal, answer_refusal, sheet_refusal}
use Rattle.step_records.proofs.RefusalLaws.{min-first, first-least, first-most}

module _ (counts : Counts) (b : List ℕ) where
  pub values_none : (i n : ℕ) → n ≡ 0 → values_refusal counts b i n ≡ 4
  unfolding values_refusal are_values_at values_at values_pass
  values_none i n h = rw h

  pub values_more : (i n : ℕ) → 0 < n → values_refusal counts b i n ≡ min (value_refusal counts (byte_at b i) (number_at b (suc i) 8)) (values_refusal counts b (i + 9) (n - 1))
  unfolding values_refusal value_refusal are_values_at values_at values_pass is_value_at value_at
  values_more i n h = let z : n ≡ suc (n - 1) = omega arith in ap (values_refusal counts b i) z ∙ (rw min-first)

  pub values_most : (i n : ℕ) → values_refusal counts b i n ≤ 4
  unfolding values_refusal
  values_most i n = first-most (are_values_at b i n) _ _

  -- of n answers from i on
  unfoldable pub from : ℕ → ℕ → ℕ
  from i n = first (are_answers_at b i n) (sheet_passes (is_made counts) (answers_at b i n)) (sheet_passes (is_known counts) (answers_at b i n))

  pub from_most : (i n : ℕ) → from i n ≤ 4
  unfolding from
  from_most i n = first-most (are_answers_at b i n) _ _

  pub from_none : (i n : ℕ) → n ≡ 0 → from i n ≡ cond (eqb i (length b)) 4 1
  unfolding from are_answers_at answers_at sheet_passes
  from_none i n h = rw h (grind arith)

  pub from_past : (i n : ℕ) → 0 < n → length b < answer_end b i → from i n ≡ 1
  unfolding from are_answers_at is_answer_at
  from_past i n h l = let z : n ≡ suc (n - 1) = omega arith in ap (from i) z ∙ (rw (lt-leb _ _ l))

  pub from_more : (i n : ℕ) → 0 < n → answer_end b i ≤ length b → from i n ≡ min (answer_refusal counts b i) (from (answer_end b i) (n - 1))
  unfolding from answer_refusal are_answers_at is_answer_at answers_at sheet_passes
  from_more i n h l = let z : n ≡ suc (n - 1) = omega arith in ap (from i) z ∙ (rw (min-first, le-leb _ _ l))

  pub answer_least : (i : ℕ) → 1 ≤ answer_refusal counts b i
  unfolding answer_refusal
  answer_least i = first-least _ _ _

  pub sheet_empty : length b ≡ 0 → sheet_refusal counts b ≡ 1
  unfolding sheet_refusal is_sheet
  sheet_empty h = rw h

  pub sheet_long : 64 < byte_at b 0 → sheet_refusal counts b ≡ 1
  unfolding sheet_refusal is_sheet
  sheet_long h = grind arith

  pub sheet_start : 0 < length b → byte_at b 0 ≤ 64 → sheet_refusal counts b ≡ from 1 (byte_at b 0)
  unfolding sheet_refusal is_sheet sheet_of from
  sheet_start h l = rw (lt-ltb _ _ h, le-leb _ _ l)

-- what a walk begins and ends with
pub ruleset values_ends = (values_none, values_most)

pub ruleset sheet_ends = (from_none, from_most, sheet_empty, sheet_long, sheet_start)
