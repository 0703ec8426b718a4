-- What the entries ensure determines the report, what the memory holds, and every output byte. Assumes nothing.
use Prim.Native.Nat.{ℕ}
use mathlib.Core.Path.{◌≡◌, sym, ap, ◌∙◌, subst}
use mathlib.Core.Bool.{Bool, true, false}
use mathlib.Core.List.{List}
use Rattle.value.proofs.Bools.{and-true, and_both}
use Rattle.store.specs.Store.{Store}
use Rattle.store.specs.Words.{is_store, store_of, world_of}
use Rattle.text.specs.Table.{is_table, strings_of}
use Rattle.steps.specs.declared.Outcome.{Outcome}
use Rattle.steps.specs.declared.Outcome.TheVariants.{Refused, Result, TypeError, Thrown}
use Rattle.steps.specs.declared.Report.{Report}
use Rattle.steps.specs.Operation.{writes_in_turn, asked}
use Rattle.steps.specs.Response.{report_of}
use Rattle.steps.specs.Step.{step}
use Rattle.steps.specs.StringEntry.{enter_string}
use Rattle.steps.specs.Page.{property_page}
use Rattle.reporting.specs.ReportWords.{report_words, report_from}
use Rattle.reporting.specs.Memory.{Shown, shown, shown_by, shown_entry, is_memory, step_over, enter_over, page_over, WroteBefore, WordsAfter, Stepped, StringEntered, Paged, StepExported, StringExported, PageExported}

module _ {words cells bytes sheet output : List ℕ} {r : Report} {after out : List ℕ} (h : Stepped words cells bytes sheet output r after out) where
  pub step-report : r ≡ report_of (step_over words cells bytes sheet output).response
  step-report = ap (λ (x : Shown). x.report) h.shows

  pub step-world : world_of after cells ≡ (step_over words cells bytes sheet output).world
  step-world = ap (λ (x : Shown). x.world) h.shows

  pub step-output : out ≡ (step_over words cells bytes sheet output).output
  step-output = ap (λ (x : Shown). x.output) h.shows

module _ {words cells : List ℕ} {o : ℕ} {output : List ℕ} {r : Report} {out : List ℕ} (h : Paged words cells o output r out) where
  pub page-report : r ≡ report_of (page_over words cells o output).response
  page-report = ap (λ (x : Shown). x.report) h.shows

module _ {cells units : List ℕ} {r : Report} {after : List ℕ} (h : StringEntered cells units r after) (σ : Store) where
  pub entry-report : r ≡ report_of (enter_over σ cells units).response
  entry-report = ap (λ (x : Shown). x.report) (h.shows σ)

  pub entry-strings : strings_of after ≡ (enter_over σ cells units).world.strings
  entry-strings = ap (λ (x : Shown). x.world.strings) (h.shows σ)

-- over memory that is a store and a table: the step and the string entry themselves; and it stays such memory
module _ (words cells : List ℕ) (m : is_memory words cells ≡ true) where
  pub store_is : is_store words ≡ true
  unfolding is_memory
  store_is = (and-true (is_store words) (is_table cells) m).0

  pub table_is : is_table cells ≡ true
  unfolding is_memory
  table_is = (and-true (is_store words) (is_table cells) m).1

  stays-before : (in_turn : Bool) (after : List ℕ) → WroteBefore in_turn words after → is_store after ≡ true
  stays-before false after w = rw w store_is
  stays-before true after w = w.committed.kept

  stays : (in_turn : Bool) (o : Outcome) (after : List ℕ) → WordsAfter in_turn o words after → is_store after ≡ true
  stays in_turn (Refused n) after w = rw w store_is
  stays in_turn (Result c) after w = w.committed.kept
  stays in_turn (TypeError n) after w = stays-before in_turn after w
  stays in_turn (Thrown v) after w = stays-before in_turn after w

  module _ {bytes sheet output : List ℕ} {r : Report} {after out : List ℕ} (h : Stepped words cells bytes sheet output r after out) where
    pub step-shows : shown r after cells out ≡ shown_by (step (world_of words cells) bytes sheet output)
    unfolding step_over
    step-shows = h.shows ∙ rw m

    pub step-memory : is_memory after cells ≡ true
    unfolding is_memory
    step-memory = and_both _ _ (stays (writes_in_turn (asked bytes)) r.outcome after h.writes) table_is

  module _ {units : List ℕ} {r : Report} {after : List ℕ} (h : StringEntered cells units r after) where
    pub entry-shows : shown_entry r (store_of words) after ≡ shown_by (enter_string (world_of words cells) units)
    unfolding enter_over
    entry-shows = h.shows (store_of words) ∙ rw table_is

    pub entry-memory : is_memory words after ≡ true
    unfolding is_memory
    entry-memory = and_both _ _ store_is (h.table ∙ table_is)

  module _ {o : ℕ} {output : List ℕ} {r : Report} {out : List ℕ} (h : Paged words cells o output r out) where
    pub page-shows : shown r words cells out ≡ shown_by (property_page (world_of words cells) o output)
    unfolding page_over
    page-shows = h.shows ∙ rw m

-- of a report that ten words tell
pub step-exported : {words cells bytes sheet output report after out : List ℕ} {r : Report} → (report ≡ report_words r) × (report_from report ≡ r) → Stepped words cells bytes sheet output r after out
    → StepExported words cells bytes sheet output report after out
step-exported {words} {cells} {bytes} {sheet} {output} {report} {after} {out} e h = record {
  reported = e.0 ∙ ap report_words (step-report h);
  tells = subst (λ (x : Report). Stepped words cells bytes sheet output x after out) (sym e.1) h;
}

pub string-exported : {cells units report after : List ℕ} {r : Report} → (report ≡ report_words r) × (report_from report ≡ r) → StringEntered cells units r after → StringExported cells units report after
string-exported {cells} {units} {report} {after} e h = record {
  reported = λ σ. e.0 ∙ ap report_words (entry-report h σ);
  tells = subst (λ (x : Report). StringEntered cells units x after) (sym e.1) h;
}

pub page-exported : {words cells : List ℕ} {o : ℕ} {output report out : List ℕ} {r : Report} → (report ≡ report_words r) × (report_from report ≡ r) → Paged words cells o output r out
    → PageExported words cells o output report out
page-exported {words} {cells} {o} {output} {report} {out} e h = record {
  reported = e.0 ∙ ap report_words (page-report h);
  tells = subst (λ (x : Report). Paged words cells o output x out) (sym e.1) h;
}
