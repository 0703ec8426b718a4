-- A step and a string entry over lent memory are the definitions'. Assumes nothing.
use Rattle.std.specs.Prelude.{None, Some, Result, Ok, Err}
use Prim.Native.Nat.{ℕ}
use native.Mathlib.Omega.{arith}
use mathlib.Core.Path.{◌≡◌, refl, sym, ap, ◌∙◌}
use mathlib.Core.Bool.{Bool, true, false, cond}
use mathlib.Core.List.{List}
use Rattle.text.specs.declared.EntryError.{EntryError}
use Rattle.text.specs.Strings.{Entry, enter}
use Rattle.text.specs.Strings as entry
use Rattle.text.specs.Table.{is_table, strings_of}
use Rattle.text.specs.Answers.{entry_of, enter_cells, cells_after}
use Rattle.store.specs.Store.{Store}
use Rattle.store.specs.Words.{store_of, world_of}
use Rattle.store_read.proofs.ListLaws.{few-strings}
use Rattle.record.specs.Bytes.{byte_at, value_at}
use borrow.Author.Tests.{eqb-true}
use Rattle.value.specs.Bits.{bit}
use Rattle.store.proofs.WordLaws.{sized, live-word}
use Rattle.record.specs.Step.{step_of, uses_object}
use Rattle.record.specs.Tests.{first_failing}
use Rattle.record.specs.Sheet.{sheet_of, is_sheet}
use Rattle.step_records.proofs.PassedLaws.{step-length, object-live, key_fits, sheet-formed, sheet-known}
use Rattle.calls.specs.declared.progress.Progress.{Progress}
use Rattle.calls.specs.Outs.{context, state_of}
use Rattle.steps.specs.declared.Report.{Report}
use Rattle.steps.specs.Operation.{Level, own_property_keys, set_integrity_level, test_integrity_level, level_of, operation_of, asked, writes_in_turn}
use Rattle.steps.specs.Sequence.{Ran}
use Rattle.internal_methods.specs.declared.Failure.{Failure}
use Rattle.steps.specs.Perform as result
use Rattle.steps.specs.Perform.{perform, maximum_calls}
use Rattle.steps.specs.Response.{report_of, refusal}
use Rattle.steps.specs.Step.{counts_of, record_tests, ended, ran, step}
use Rattle.steps.specs.StringEntry.{enter_string, entered}
use Rattle.reporting.specs.declared.Performed.{Performed}
use Rattle.reporting.specs.Performed.{Taken, out_performed}
use Rattle.reporting.specs.Reports.{start, performed_report, Finished}
use Rattle.reporting.specs.Memory.{Shown, shown, shown_by, is_memory, step_over, shown_entry, enter_over}
use Rattle.reporting.proofs.EndLaws.{finished}
use Rattle.reporting.proofs.ContractLaws.{store_is, table_is}
use Rattle.reporting.proofs.SheetLaws.{begins}
use Rattle.own_keys.specs.Lists.{are_lists_fit}
use Rattle.performing.specs.Results.{Performable}
use Rattle.performing.proofs.FitLaws.{sheet-fits}
use Rattle.step.specs.Entry.{entry_report}

-- what a step that passes its tests has for `performing`
module _ (words cells bytes sheet : List ℕ) (m : is_memory words cells ≡ true) (h : first_failing (record_tests (world_of words cells) bytes sheet) ≡ None) where
  pub performable : Performable words 256 bytes
  unfolding step_of
  performable = record {
    allowed = omega arith;
    long = omega (arith, step-length (world_of words cells) bytes sheet h);
    live = λ t.
        let used : uses_object (byte_at bytes 0) ≡ true = ap (λ (c : ℕ). uses_object c) (eqb-true (byte_at bytes 0) 17 t) in
        sym (ap (λ (n : ℕ). bit n (byte_at bytes 1)) (live-word words (sized words (store_is words cells m)))) ∙ object-live (world_of words cells) bytes sheet h used;
    key = key_fits (world_of words cells) bytes sheet h (few-strings cells (table_is words cells m));
  }

  -- key lists of the sheet that can be loaded
  pub lists-fit : (is_sheet sheet ≡ true) × (are_lists_fit (sheet_of sheet) ≡ true)
  lists-fit =
      let formed = sheet-formed (world_of words cells) bytes sheet h in
      (formed, sheet-fits (counts_of (world_of words cells)) (few-strings cells (table_is words cells m)) sheet formed (sheet-known (world_of words cells) bytes sheet h))

module _ (words cells bytes sheet output : List ℕ) where
  abbrev ends_as : Ran result.Result → Shown
  ends_as o = shown_by (ended (world_of words cells) (sheet_of sheet) output o)

  abbrev runs : Shown
  runs = ends_as (ran (world_of words cells) bytes sheet)

  -- the run of what the bytes ask for, from the sheet's start
  asks : is_sheet sheet ≡ true
      → (perform maximum_calls (context words cells 256) (operation_of (step_of bytes))).run (state_of sheet (start sheet)) ≡ ran (world_of words cells) bytes sheet
  unfolding ran asked
  asks formed = rw (begins sheet formed)

  lists : byte_at bytes 0 ≡ 14 → operation_of (step_of bytes) ≡ own_property_keys (byte_at bytes 1)
  unfolding operation_of step_of
  lists e = rw e

  sets : byte_at bytes 0 ≡ 18 → operation_of (step_of bytes) ≡ set_integrity_level (byte_at bytes 1) (level_of (value_at bytes 11))
  unfolding operation_of step_of
  sets e = rw e

  tests : byte_at bytes 0 ≡ 19 → operation_of (step_of bytes) ≡ test_integrity_level (byte_at bytes 1) (level_of (value_at bytes 11))
  unfolding operation_of step_of
  tests e = rw e

  -- code 18 writes in turns
  pub turns : byte_at bytes 0 ≡ 18 → writes_in_turn (asked bytes) ≡ true
  unfolding asked
  turns e = ap writes_in_turn (sets e)

  module _ (formed : is_sheet sheet ≡ true) where
    pub run-shown : (s : Progress) (x : Shown) → s ≡ start sheet
        → x ≡ ends_as ((perform maximum_calls (context words cells 256) (operation_of (step_of bytes))).run (state_of sheet s)) → x ≡ runs
    run-shown s x e h = (rw e at h) ∙ ap ends_as (asks formed)

    pub run-listed : (o : ℕ) (x : Shown) → o ≡ byte_at bytes 1 → byte_at bytes 0 ≡ 14
        → x ≡ ends_as ((perform maximum_calls (context words cells 256) (own_property_keys o)).run (state_of sheet (start sheet))) → x ≡ runs
    run-listed o x e q h = run-shown (start sheet) x refl (rw (lists q, sym e) h)

    pub run-set : (o : ℕ) (level : Level) (x : Shown) → o ≡ byte_at bytes 1 → level ≡ level_of (value_at bytes 11) → byte_at bytes 0 ≡ 18
        → x ≡ ends_as ((perform maximum_calls (context words cells 256) (set_integrity_level o level)).run (state_of sheet (start sheet))) → x ≡ runs
    run-set o level x e f q h = run-shown (start sheet) x refl (rw (sets q, sym e, sym f) h)

    pub run-tested : (o : ℕ) (level : Level) (x : Shown) → o ≡ byte_at bytes 1 → level ≡ level_of (value_at bytes 11) → byte_at bytes 0 ≡ 19
        → x ≡ ends_as ((perform maximum_calls (context words cells 256) (test_integrity_level o level)).run (state_of sheet (start sheet))) → x ≡ runs
    run-tested o level x e f q h = run-shown (start sheet) x refl (rw (tests q, sym e, sym f) h)

    pub run-performed : (s : Progress) (after : List ℕ) (p : Result Performed Failure) (t : Progress) (r : Report) → s ≡ start sheet
        → out_performed sheet (store_of words) p t ≡ (perform maximum_calls (context words cells 256) (operation_of (step_of bytes))).run (state_of sheet s)
        → Taken words p → Finished words after p t → r ≡ performed_report sheet p t → shown r after cells output ≡ runs
    run-performed s after p t r e h k g q = run-shown s (shown r after cells output) e (rw q (finished words cells sheet output after p t k g) ∙ ap ends_as h)

  -- the step, by what its tests say
  pub step-unread : (r : Report) → is_memory words cells ≡ false → r ≡ report_of (refusal 1) → shown r words cells output ≡ shown_by (step_over words cells bytes sheet output)
  unfolding step_over
  step-unread r e q = rw (e, q)

  pub step-refused : (n : ℕ) (r : Report) → is_memory words cells ≡ true → first_failing (record_tests (world_of words cells) bytes sheet) ≡ Some n → r ≡ report_of (refusal n)
      → shown r words cells output ≡ shown_by (step_over words cells bytes sheet output)
  unfolding step_over step
  step-refused n r e f q = rw (e, f, q)

  pub step-ran : (x : Shown) → is_memory words cells ≡ true → first_failing (record_tests (world_of words cells) bytes sheet) ≡ None → x ≡ runs → x ≡ shown_by (step_over words cells bytes sheet output)
  unfolding step_over step
  step-ran x e f h = rw (e, f) h

-- entering a string
module _ (σ : Store) (cells units after : List ℕ) where
  told : (a : Result ℕ EntryError) (x : Entry) → entry_of a (strings_of after) ≡ x → after ≡ cells_after cells units x
      → shown_entry (entry_report a) σ after ≡ shown_by (entered (record { store = σ; strings = strings_of cells }) x)
  told (Err error) x e k =
      let z : after ≡ cells = rw (sym e) at k in
      rw (sym e) (ap (λ (l : List ℕ). shown_entry (entry_report (Err error)) σ l) z)
  told (Ok n) x e k = rw (sym e)

  pub entry-shown : (a : Result ℕ EntryError) (r : Report) → entry_of a (strings_of after) ≡ enter_cells cells units → after ≡ cells_after cells units (enter_cells cells units)
      → r ≡ entry_report a → shown_entry r σ after ≡ shown_by (enter_over σ cells units)
  unfolding enter_cells enter_over enter_string
  entry-shown a r e k q = rw q (go (is_table cells) e k)
    where
      go : (b : Bool) → entry_of a (strings_of after) ≡ cond b (enter (strings_of cells) units) (entry.refused 1) → after ≡ cells_after cells units (cond b (enter (strings_of cells) units) (entry.refused 1))
          → shown_entry (entry_report a) σ after ≡ shown_by (cond b (entered (record { store = σ; strings = strings_of cells }) (enter (strings_of cells) units)) (entered (record { store = σ; strings = strings_of cells }) (entry.refused 1)))
      go true f g = told a _ f g
      go false f g = told a _ f g
