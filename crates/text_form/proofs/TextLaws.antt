-- What is promised of every text holds. Assumes nothing.
use Rattle.std.specs.Prelude.{Option, None, Some}
use Prim.Native.Nat.{ℕ, suc, ◌<◌}
use native.Mathlib.Omega.{arith}
use mathlib.Core.Path.{◌≡◌, refl, ap, ◌∙◌}
use mathlib.Core.Bool.{Bool, true, false, false≢true}
use mathlib.Core.List.{List, [], ◌∷◌, ◌++◌}
use lib.ListN.{length, get_or, take, drop}
use Rattle.store.specs.Store.{World, empty}
use Rattle.record.specs.Tests.{failing, first_failing}
use Rattle.steps.specs.Response.{refused}
use Rattle.steps.specs.Response as response
use Rattle.steps.specs.Step.{record_tests}
use Rattle.steps.specs.Run.{Call, step, enter, page, effect, run, world_from}
use Rattle.demands.specs.Refusals.{Refusal, StepDecided, EntryRefusal}
use Rattle.demands.specs.Refusals as refusal
use Rattle.demands.specs.Pages.{PageRefusal}
use Rattle.demands.specs.Pages as pages
use Rattle.demands.proofs.Decided.{step-decided, entry-decided}
use Rattle.demands.proofs.PagesHold.{page-decided}
use Rattle.demands.proofs.LastingHolds.{lasting}
use Rattle.demands.proofs.FurtherHold.{further}
use Rattle.text_form.specs.Cells.{pieces}
use Rattle.text_form.specs.Lines.{columns_of, call_in}
use Rattle.text_form.specs.Rows.{heading, row}
use Rattle.text_form.specs.Text.{lines_of, calls_of, rows, lines_under, rows_of, run_text}
use Rattle.text_form.specs.Reader.{line_effect}
use Rattle.text_form.specs.Texts.{world_after, line_rows, LineDecided, TextKept}
use Rattle.text_form.proofs.RowLaws.{rows_from, rows-turn, one-event-each}
use Rattle.text_form.proofs.NameLaws.{names-once}

-- No call is refused as 12 -------------------------------------------------------------------

-- no test has the number
abbrev Without : ℕ → List (ℕ × Bool) → Type 0
Without m [] = Unit {0}
Without m (t ∷ ts) = (t.0 ≡ m → ⊥) × Without m ts

-- so the first that fails does not
first-other : (m : ℕ) (tests : List (ℕ × Bool)) → Without m tests → (n : ℕ) → first_failing tests ≡ Some n → n ≡ m → ⊥
unfolding first_failing
first-other m [] h n e = absurd (false≢true cc)
first-other m (t ∷ ts) h n e = go t.1 e (first-other m ts h.1 n)
  where
    go : (b : Bool) → failing b t.0 (first_failing ts) ≡ Some n → (first_failing ts ≡ Some n → n ≡ m → ⊥) → n ≡ m → ⊥
    go true g rest i = rest g i
    go false g rest i = let q : t.0 ≡ n = cc in h.0 (q ∙ i)

module _ (ω : World) where
  numbers : (bytes sheet : List ℕ) → Without 12 (record_tests ω bytes sheet)
  numbers bytes sheet =
      (λ e. omega (arith, e), (λ e. omega (arith, e), (λ e. omega (arith, e), (λ e. omega (arith, e), (λ e. omega (arith, e), (λ e. omega (arith, e), (λ e. omega (arith, e), (λ e. omega (arith, e), tt))))))))

  step_other : (bytes sheet output : List ℕ) (n : ℕ) → Refusal ω bytes sheet output n → n ≡ 12 → ⊥
  step_other bytes sheet output n (refusal.inadmissible e) i = first-other 12 (record_tests ω bytes sheet) (numbers bytes sheet) n e i
  step_other bytes sheet output n (refusal.crowded p m h) i = omega (arith, i)
  step_other bytes sheet output n (refusal.full p l r h) i = omega (arith, i)
  step_other bytes sheet output n (refusal.spent p e h) i = omega (arith, i)
  step_other bytes sheet output n (refusal.unreadable used a r p q u e h) i = omega (arith, i)
  step_other bytes sheet output n (refusal.exhausted p e h) i = omega (arith, i)
  step_other bytes sheet output n (refusal.unread used a rest p q e h) i = omega (arith, i)
  step_other bytes sheet output n (refusal.short p e u h) i = omega (arith, i)

  entry-below : (units : List ℕ) (n : ℕ) → EntryRefusal ω units n → n < 12
  entry-below units n (refusal.EntryRefusal.long h) = omega arith
  entry-below units n (refusal.EntryRefusal.full h q r) = omega arith

  page-below : (o : ℕ) (output : List ℕ) (n : ℕ) → PageRefusal ω o output n → n < 12
  page-below o output n (pages.missing h) = omega arith
  page-below o output n (pages.proxied e) = omega arith
  page-below o output n (pages.short e h) = omega arith

  module _ (decides : (bytes sheet output : List ℕ) → StepDecided ω bytes sheet output) where
    not-twelve : (c : Call) → (effect ω c).response.ending ≡ refused 12 → ⊥
    unfolding effect
    not-twelve (step bytes sheet output) h = step_other bytes sheet output 12 (((decides bytes sheet output).refuses 12).0 h) refl
    not-twelve (enter units) h = let l : 12 < 12 = entry-below units 12 (((entry-decided ω units).refuses 12).0 h) in omega arith
    not-twelve (page o output) h = let l : 12 < 12 = page-below o output 12 (((page-decided ω o output).refuses 12).0 h) in omega arith

    line-decided : (columns line : List ℕ) → LineDecided ω columns line
    line-decided columns line = record {
      refuses = (λ h. go (call_in columns line) h, λ h. rw h);
      untouched = λ h. rw h;
      called = λ c h. rw h;
      stepped = λ bytes sheet output h. decides bytes sheet output;
      entered = λ units h. entry-decided ω units;
    }
      where
        go : (o : Option Call) → (line_effect ω o).response.ending ≡ refused 12 → o ≡ None
        go None h = refl
        go (Some c) h = absurd (not-twelve c h)

-- Lines ---------------------------------------------------------------------------------------

-- the world that lines leave is the one that their calls leave
after-calls : (ω : World) (lines : List (Option Call)) → world_after ω lines ≡ world_from ω (calls_of lines) (length (calls_of lines))
unfolding world_after calls_of world_from
after-calls ω [] = refl
after-calls ω (None ∷ lines) = after-calls ω lines
after-calls ω (Some c ∷ lines) = after-calls (effect ω c).world lines

decides-after : (lines : List (Option Call)) (bytes sheet output : List ℕ) → StepDecided (world_after empty lines) bytes sheet output
decides-after lines bytes sheet output = rw (after-calls empty lines) (step-decided (calls_of lines) (length (calls_of lines)) bytes sheet output)

each_row : (n : ℕ) (ω : World) (lines : List (Option Call)) → rows_from n ω lines ≡ line_rows n ω lines
unfolding rows line_rows
each_row n ω [] = refl
each_row n ω (o ∷ lines) = rows-turn n ω o lines ∙ ap (λ (more : List ℕ). row n (line_effect ω o).response ++ more) (each_row (suc n) (line_effect ω o).world lines)

-- Texts ---------------------------------------------------------------------------------------

pub text-kept : (input : List ℕ) → TextKept input
unfolding run_text run columns_of pieces
text-kept input = record {
  unnamed = λ h. unnamed-rows (lines_of input) h;
  once = λ columns h. names-once _ columns h;
  kept = λ columns h.
      let calls = lines_under columns (drop 1 (lines_of input)) in
      let told = ap (λ (more : List ℕ). heading ++ more) (named-rows (lines_of input) columns h) in
      record {
        each = told ∙ ap (λ (more : List ℕ). heading ++ more) (each_row 1 empty calls);
        told = told;
        events = one-event-each (calls_of calls);
        decided = λ i l. line-decided _ (decides-after (take i calls)) columns _;
        lasting = lasting (calls_of calls);
        further = further (calls_of calls);
      };
}
  where
    unnamed-rows : (lines : List (List ℕ)) → columns_of (get_or lines 0 []) ≡ None → heading ++ rows_of lines ≡ heading ++ row 0 (response.refusal 12)
    unnamed-rows [] h = refl
    unnamed-rows (line ∷ lines) h = rw h

    named-rows : (lines : List (List ℕ)) (columns : List ℕ) → columns_of (get_or lines 0 []) ≡ Some columns → rows_of lines ≡ rows_from 1 empty (lines_under columns (drop 1 lines))
    named-rows [] columns h = absurd (false≢true cc)
    named-rows (line ∷ lines) columns h = rw h
