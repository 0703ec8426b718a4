-- The end of a step that seals or freezes. Assumes nothing.
use Prim.Native.Nat.{ℕ}
use mathlib.Core.Path.{◌≡◌, refl, ap, ◌∙◌}
use mathlib.Core.Bool.{Bool, false}
use mathlib.Core.List.{List, [], ◌∷◌}
use types.Run.{OneOf, miss}
use denote.Enum.Declared.{tag_of}
use Rattle.value.specs.declared.Value.TheVariants.{Boolean}
use Rattle.store.specs.Store.{Store}
use Rattle.store.specs.Words.{store_of, world_of}
use Rattle.internal_methods.specs.Monad.{M}
use Rattle.internal_methods.specs.Methods.{Context}
use Rattle.internal_methods.specs.Internal.{methods}
use Rattle.record.specs.Sheet.{sheet_of}
use Rattle.calls.specs.declared.progress.Progress.{Progress}
use Rattle.internal_methods.specs.declared.Failure.{Failure}
use Rattle.std.specs.Prelude.{Result, Ok, Err}
use Rattle.calls.specs.Outs.{state_of, out}
use Rattle.steps.specs.declared.Completion.TheVariants.{Value}
use Rattle.steps.specs.declared.Outcome.{Outcome}
use Rattle.steps.specs.declared.Outcome.TheVariants as outcome
use Rattle.steps.specs.contracts.Outcome.{the_type}
use Rattle.steps.specs.declared.Report.{Report}
use Rattle.steps.specs.Operation.{Level, set_integrity_level}
use Rattle.steps.specs.Sequence.{Ran}
use Rattle.steps.specs.Sequence as sequence
use Rattle.steps.specs.SetIntegrityLevel
use Rattle.steps.specs.Perform.{boolean, in_turn, once, over, perform, reading, maximum_calls}
use Rattle.steps.specs.Step.{ended}
use Rattle.reporting.specs.Reports.{start, reported}
use Rattle.reporting.specs.Memory.{Shown, shown, shown_by}
use Rattle.reporting.proofs.EndLaws.{WordsLeft, fails-shown, completes-shown, is_refused, reports}
use Rattle.reporting.specs.Performed.{Plain}
use Rattle.performing.proofs.ResultLaws.{boolean_told}
use Rattle.performing.specs.Results.{boolean_result}

module _ (words cells sheet : List ℕ) (c : Context) (o : ℕ) (level : Level) (s : Progress) (e : s ≡ start sheet) (after : List ℕ) where
  -- 7.3.15, from the step's beginning
  abbrev run : Progress → Ran Bool
  run p = (SetIntegrityLevel.set_integrity_level (λ σ. methods maximum_calls (over c σ)) o level).run c.store (state_of sheet p)

  abbrev told : List ℕ → Shown
  told output = shown_by (ended (world_of words cells) (sheet_of sheet) output ((perform maximum_calls c (set_integrity_level o level)).run (state_of sheet (start sheet))))

  abbrev told_of : List ℕ → Ran Bool → Shown
  told_of output x = shown_by (ended (world_of words cells) (sheet_of sheet) output (sequence.next (λ b. sequence.pure (boolean b)) x.0 x.1))

  is-told : (output : List ℕ) (x : Ran Bool) → x ≡ run s → told_of output x ≡ told output
  unfolding perform in_turn sequence.◌>>=◌
  is-told output x h = ap (told_of output) (h ∙ ap run e)

  -- the words are those from before, or those that the run left, by the report
  pub level_shown : (x : Result Bool Failure) (t : Progress) (σ : Store) (r : Report) → (out sheet x t, σ) ≡ run s → r ≡ reported sheet (boolean_result x) t → WordsLeft r.outcome words after σ
      → (output : List ℕ) → shown r after cells output ≡ told output
  unfolding sequence.next sequence.pure
  level_shown (Err f) t σ r h q w output = rw q (fails-shown words cells output (sheet_of sheet) after σ f (state_of sheet t) (rw q at w)) ∙ is-told output _ h
  level_shown (Ok b) t σ r h q w output = rw q (completes-shown words cells output (sheet_of sheet) after σ (Value (Boolean b)) (state_of sheet t) refl (rw q at w)) ∙ is-told output _ h

-- the test, which writes nothing
pub test_shown : (words cells sheet output : List ℕ) (m : M Bool) (s t : Progress) → s ≡ start sheet → (r : Result Bool Failure) → out sheet r t ≡ m.run (state_of sheet s) → (q : Report) → q ≡ reported sheet (boolean_result r) t → Plain (boolean_result r)
    → shown q words cells output ≡ shown_by (ended (world_of words cells) (sheet_of sheet) output ((once (store_of words) (reading (store_of words) boolean m)).run (state_of sheet (start sheet))))
test_shown words cells sheet output m s t e r h q i p = rw i (reports words cells sheet output (boolean_result r) t p ∙ ap (λ x. shown_by (ended (world_of words cells) (sheet_of sheet) output x)) (boolean_told sheet (store_of words) (state_of sheet (start sheet)) t m r (h ∙ ap (λ (x : Progress). m.run (state_of sheet x)) e)))

-- an outcome of the other three kinds is no refusal
pub not_refused : (o : Outcome) → OneOf (1 ∷ 2 ∷ 3 ∷ []) (tag_of the_type o) → is_refused o ≡ false
not_refused (outcome.Refused n) h = absurd (miss (1 ∷ 2 ∷ 3 ∷ []) 0 tt h)
not_refused (outcome.Result c) h = refl
not_refused (outcome.TypeError n) h = refl
not_refused (outcome.Thrown v) h = refl

pub refused_left : (words after : List ℕ) (σ : Store) (o : Outcome) (n : ℕ) → o ≡ outcome.Refused n → after ≡ words → WordsLeft o words after σ
refused_left words after σ o n e h = rw e h
