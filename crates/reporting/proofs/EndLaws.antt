-- The end of a run over lent memory is the definitions' end. Assumes nothing.
use Prim.Native.Nat.{ℕ, zero, suc, zero-le}
use native.Mathlib.Nat.{le_refl}
use native.Mathlib.Omega.{arith}
use mathlib.Core.Path.{◌≡◌, refl, sym}
use mathlib.Core.Bool.{Bool, true, false, false≢true}
use mathlib.Core.List.{List, [], ◌∷◌}
use Rattle.std.specs.Prelude.{Result, Ok, Err}
use Rattle.store.specs.Store.{Store}
use Rattle.store.specs.Words.{store_of, is_store, world_of}
use Rattle.store_write.specs.declared.write.Write.{Write}
use Rattle.store_write.specs.Write.{applied, written_to, written_all, Becomes, Committed}
use Rattle.internal_methods.specs.declared.Failure.{Failure}
use Rattle.internal_methods.specs.declared.Failure.TheVariants.{Refused, TypeError, Thrown}
use Rattle.internal_methods.specs.Monad.{Answer, State, failed, done}
use Rattle.record.specs.Sheet.{sheet_of}
use Rattle.calls.specs.declared.progress.Progress.{Progress}
use Rattle.calls.specs.Outs.{state_of}
use Rattle.steps.specs.declared.Completion.{Completion}
use Rattle.steps.specs.declared.Completion.TheVariants as completion
use Rattle.steps.specs.declared.Outcome.{Outcome}
use Rattle.steps.specs.declared.Outcome.TheVariants as outcome
use Rattle.steps.specs.declared.Report.{Report}
use Rattle.steps.specs.Response.{Effect}
use Rattle.steps.specs.Step.{refusing_unread, ended}
use Rattle.reporting.specs.declared.Performed.{Performed}
use Rattle.reporting.specs.Performed.{Taken, out_performed, out_completed, Plain, result_of, is_plain}
use Rattle.reporting.specs.Reports.{unless_unread, failure_report, completion_report, reported, performed_report, Written, Finished}
use Rattle.reporting.specs.Memory.{shown, shown_by, Wrote, WroteBefore, WordsAfter}
use Rattle.reporting.proofs.SheetLaws.{none_left, some_left}

-- a refusal leaves the words from before; any other end leaves words that are the store that the run left
abbrev pub WordsLeft : Outcome → List ℕ → List ℕ → Store → Type 0
WordsLeft (outcome.Refused n) words after σ = after ≡ words
WordsLeft (outcome.Result c) words after σ = store_of after ≡ σ
WordsLeft (outcome.TypeError n) words after σ = store_of after ≡ σ
WordsLeft (outcome.Thrown v) words after σ = store_of after ≡ σ

pub words-stay : (o : Outcome) (words : List ℕ) → WordsLeft o words words (store_of words)
words-stay (outcome.Refused n) words = refl
words-stay (outcome.Result c) words = refl
words-stay (outcome.TypeError n) words = refl
words-stay (outcome.Thrown v) words = refl

module _ (words cells output : List ℕ) (answers : List Answer) (after : List ℕ) (σ : Store) where
  -- by the answers that are unread
  judged : (l : List Answer) (x : Effect) (r : Report) → (store_of after ≡ σ → shown r after cells output ≡ shown_by x) → (WordsLeft r.outcome words after σ → store_of after ≡ σ)
      → WordsLeft (unless_unread l r).outcome words after σ → shown (unless_unread l r) after cells output ≡ shown_by (refusing_unread (world_of words cells) output l x)
  judged [] x r h k w = h (k w)
  judged (a ∷ l) x r h k w = rw w

  pub fails-shown : (f : Failure) (s : State) → WordsLeft (failure_report answers f s).outcome words after σ
      → shown (failure_report answers f s) after cells output ≡ shown_by (ended (world_of words cells) answers output (failed f s, σ))
  fails-shown (Refused n) s w = rw w
  fails-shown (TypeError n) s w = judged s.answers _ _ (λ e. rw (sym e)) (λ e. e) w
  fails-shown (Thrown v) s w = judged s.answers _ _ (λ e. rw (sym e)) (λ e. e) w

  pub completes-shown : (c : Completion) (s : State) → is_plain c ≡ true → WordsLeft (completion_report answers c s).outcome words after σ
      → shown (completion_report answers c s) after cells output ≡ shown_by (ended (world_of words cells) answers output (done (result_of c) s, σ))
  completes-shown (completion.Value v) s h w = judged s.answers _ _ (λ e. rw (sym e)) (λ e. e) w
  completes-shown (completion.Descriptor p) s h w = judged s.answers _ _ (λ e. rw (sym e)) (λ e. e) w
  completes-shown completion.Absent s h w = judged s.answers _ _ (λ e. rw (sym e)) (λ e. e) w
  completes-shown (completion.Keys n) s h w = absurd (false≢true h)
  completes-shown (completion.Page n) s h w = absurd (false≢true h)

-- the same where nothing is written
module _ (words cells sheet output : List ℕ) where
  pub failing : (f : Failure) (s : State) → shown (failure_report (sheet_of sheet) f s) words cells output
      ≡ shown_by (ended (world_of words cells) (sheet_of sheet) output (failed f s, store_of words))
  failing f s = fails-shown words cells output (sheet_of sheet) words (store_of words) f s (words-stay (failure_report (sheet_of sheet) f s).outcome words)

  pub completing : (c : Completion) (s : State) → is_plain c ≡ true → shown (completion_report (sheet_of sheet) c s) words cells output
      ≡ shown_by (ended (world_of words cells) (sheet_of sheet) output (done (result_of c) s, store_of words))
  completing c s h = completes-shown words cells output (sheet_of sheet) words (store_of words) c s h (words-stay (completion_report (sheet_of sheet) c s).outcome words)

  -- the words after a write, by the answers left
  written-left : (after : List ℕ) (c : Completion) (w : Write) (s : Progress) (left : ℕ) → s.left ≡ left → Written left w words after
      → WordsLeft (completion_report (sheet_of sheet) c (state_of sheet s)).outcome words after (applied w (store_of words))
  written-left after c w s zero e h = rw (none_left sheet s e) h.store
  written-left after c w s (suc left) e h = let (a, (rest, q)) = some_left sheet s (omega (arith, e)) in rw q h

  -- what `finish` reports and leaves
  pub finished : (after : List ℕ) (r : Result Performed Failure) (s : Progress) → Taken words r → Finished words after r s
      → shown (performed_report sheet r s) after cells output ≡ shown_by (ended (world_of words cells) (sheet_of sheet) output (out_performed sheet (store_of words) r s))
  finished after (Err f) s t e = rw e (failing f (state_of sheet s))
  finished after (Ok p) s t e = completes-shown words cells output (sheet_of sheet) after (applied p.write (store_of words)) p.completion (state_of sheet s) t.1 (written-left after p.completion p.write s s.left refl e)

  -- what is reported of an operation that writes nothing
  pub reports : (r : Result Completion Failure) (s : Progress) → Plain r
      → shown (reported sheet r s) words cells output ≡ shown_by (ended (world_of words cells) (sheet_of sheet) output (out_completed sheet (store_of words) r s))
  reports (Err f) s h = failing f (state_of sheet s)
  reports (Ok c) s h = completing c (state_of sheet s) h

-- the one write, by the answers left
module _ (w : Write) (words after : List ℕ) (left : ℕ) where
  pub is_written : left ≡ 0 → Becomes after (written_to w words) (applied w (store_of words)) → Written left w words after
  is_written e h = rw e h

  pub is_unwritten : (left ≡ 0 → ⊥) → after ≡ words → Written left w words after
  is_unwritten h e = go left h
    where
      go : (n : ℕ) → (n ≡ 0 → ⊥) → Written n w words after
      go zero i = absurd (i refl)
      go (suc n) i = e

-- words that were not written
module _ (words after : List ℕ) (h : is_store words ≡ true) (e : after ≡ words) where
  not_written : (in_turn : Bool) → Wrote in_turn words after
  unfolding written_all
  not_written in_turn = record { committed = record { writes = []; words = e; kept = rw e h }; one = λ _. zero-le }

  not-written-before : (in_turn : Bool) → WroteBefore in_turn words after
  not-written-before false = e
  not-written-before true = not_written true

  pub kept-words : (in_turn : Bool) (o : Outcome) → WordsAfter in_turn o words after
  kept-words in_turn (outcome.Refused n) = e
  kept-words in_turn (outcome.Result c) = not_written in_turn
  kept-words in_turn (outcome.TypeError n) = not-written-before in_turn
  kept-words in_turn (outcome.Thrown v) = not-written-before in_turn

-- the words after one write
pub finished-words : (words sheet : List ℕ) → is_store words ≡ true → (in_turn : Bool) (after : List ℕ) (r : Result Performed Failure) (s : Progress) → Finished words after r s → WordsAfter in_turn (performed_report sheet r s).outcome words after
unfolding written_all
finished-words words sheet h in_turn after (Err f) s e = kept-words words after h e in_turn (failure_report (sheet_of sheet) f (state_of sheet s)).outcome
finished-words words sheet h in_turn after (Ok p) s e = by_left s.left refl e
  where
    by_left : (left : ℕ) → s.left ≡ left → Written left p.write words after → WordsAfter in_turn (completion_report (sheet_of sheet) p.completion (state_of sheet s)).outcome words after
    by_left zero q i = rw (none_left sheet s q) (record { committed = record { writes = p.write ∷ []; words = i.words; kept = i.kept }; one = λ _. le_refl 1 })
    by_left (suc left) q i = kept-words words after h i in_turn (completion_report (sheet_of sheet) p.completion (state_of sheet s)).outcome

abbrev pub is_refused : Outcome → Bool
is_refused (outcome.Refused n) = true
is_refused (outcome.Result c) = false
is_refused (outcome.TypeError n) = false
is_refused (outcome.Thrown v) = false

-- writes in turns, by how the step ended; a refusal takes them back
module _ (words after : List ℕ) (c : Committed words after) where
  wrote : Wrote true words after
  wrote = record { committed = c; one = λ q. absurd (false≢true (sym q)) }

  pub turns-words : (o : Outcome) → is_refused o ≡ false → WordsAfter true o words after
  turns-words (outcome.Refused n) e = absurd (false≢true (sym e))
  turns-words (outcome.Result d) e = wrote
  turns-words (outcome.TypeError n) e = wrote
  turns-words (outcome.Thrown v) e = wrote

  pub turns-left : (o : Outcome) → is_refused o ≡ false → WordsLeft o words after (store_of after)
  turns-left (outcome.Refused n) e = absurd (false≢true (sym e))
  turns-left (outcome.Result d) e = refl
  turns-left (outcome.TypeError n) e = refl
  turns-left (outcome.Thrown v) e = refl
