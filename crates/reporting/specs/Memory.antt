-- The calls of the interface over lent memory: the store's words, the string table's cells, and the output. Assumes nothing.
use Rattle.std.specs.Prelude.{ℕ, ◌≤◌, ◌≡◌, Bool, true, false, ◌&&◌, cond, List, [], length}
use Rattle.text.specs.Table.{is_table, strings_of}
use Rattle.text.specs.Answers.{enter_cells, cells_after}
use Rattle.store.specs.Store.{Store, World}
use Rattle.store.specs.Words.{is_store, world_of}
use Rattle.store_write.specs.Write.{Committed}
use Rattle.steps.specs.declared.Outcome.{Outcome}
use Rattle.steps.specs.declared.Outcome.TheVariants.{Refused, Result, TypeError, Thrown}
use Rattle.steps.specs.declared.Report.{Report}
use Rattle.steps.specs.Operation.{writes_in_turn, asked}
use Rattle.steps.specs.Response.{Response, Effect, report_of}
use Rattle.steps.specs.Step.{step, refusing}
use Rattle.steps.specs.StringEntry.{enter_string}
use Rattle.steps.specs.Page.{property_page}
use Rattle.reporting.specs.Seen.{response_seen}
use Rattle.reporting.specs.ReportWords.{report_words, report_from}

-- what a call shows: its report, the response that is read from that and the output, and what the memory holds after it
pub record Shown : Type 0 where
  pub report : Report
  pub response : Response
  pub world : World
  pub output : List ℕ

abbrev pub shown : Report → List ℕ → List ℕ → List ℕ → Shown
shown r words cells output = record { report = r; response = response_seen r output; world = world_of words cells; output = output }

abbrev pub shown_by : Effect → Shown
shown_by e = record { report = report_of e.response; response = e.response; world = e.world; output = e.output }

-- words that are no store and cells that are no table are records of a wrong length or count: refusal 1
unfoldable pub is_memory : List ℕ → List ℕ → Bool
is_memory words cells = is_store words && is_table cells

unfoldable pub step_over : List ℕ → List ℕ → List ℕ → List ℕ → List ℕ → Effect
step_over words cells bytes sheet output = cond (is_memory words cells) (step (world_of words cells) bytes sheet output) (refusing 1 (world_of words cells) output)

-- entering a string reads no store, so any store may stand beside the cells
abbrev pub shown_entry : Report → Store → List ℕ → Shown
shown_entry r σ cells = record { report = r; response = response_seen r []; world = record { store = σ; strings = strings_of cells }; output = [] }

unfoldable pub enter_over : Store → List ℕ → List ℕ → Effect
enter_over σ cells units =
    cond (is_table cells)
    (enter_string (record { store = σ; strings = strings_of cells }) units)
    (refusing 1 (record { store = σ; strings = strings_of cells }) [])

unfoldable pub page_over : List ℕ → List ℕ → ℕ → List ℕ → Effect
page_over words cells o output = cond (is_memory words cells) (property_page (world_of words cells) o output) (refusing 1 (world_of words cells) output)

-- the words were written: once at most, or in turns
pub record Wrote (in_turn : Bool) (before after : List ℕ) : Type 0 where
  pub committed : Committed before after
  pub one : in_turn ≡ false → length committed.writes ≤ 1

-- before a TypeError or a throw: not at all, or in turns
abbrev pub WroteBefore : Bool → List ℕ → List ℕ → Type 0
WroteBefore false before after = after ≡ before
WroteBefore true before after = Wrote true before after

-- the words themselves: only a result may change them, by one write; a step that writes in turns also changes them before a TypeError or a throw
abbrev pub WordsAfter : Bool → Outcome → List ℕ → List ℕ → Type 0
WordsAfter in_turn (Refused n) before after = after ≡ before
WordsAfter in_turn (Result c) before after = Wrote in_turn before after
WordsAfter in_turn (TypeError n) before after = WroteBefore in_turn before after
WordsAfter in_turn (Thrown v) before after = WroteBefore in_turn before after

-- What `step` ensures: the report, what the memory holds and every output byte are those of the definitions; and how the words changed
pub record Stepped (words cells bytes sheet output : List ℕ) (r : Report) (after out : List ℕ) : Type 0 where
  pub shows : shown r after cells out ≡ shown_by (step_over words cells bytes sheet output)
  pub writes : WordsAfter (writes_in_turn (asked bytes)) r.outcome words after

-- What `enter_string` ensures: the report and the strings are those of the definitions, whatever store stands beside the cells; every cell is determined
pub record StringEntered (cells units : List ℕ) (r : Report) (after : List ℕ) : Type 0 where
  pub shows : (σ : Store) → shown_entry r σ after ≡ shown_by (enter_over σ cells units)
  pub cells_are : after ≡ cells_after cells units (enter_cells cells units)
  pub table : is_table after ≡ is_table cells

-- What `page` ensures: the report and every output byte are those of the definitions, and the memory stays
pub record Paged (words cells : List ℕ) (o : ℕ) (output : List ℕ) (r : Report) (out : List ℕ) : Type 0 where
  pub shows : shown r words cells out ≡ shown_by (page_over words cells o output)

-- What `demnyaluz_step` ensures: the ten words are those of the definitions' report, and of the report that they tell all holds that `step` ensures
pub record StepExported (words cells bytes sheet output report after out : List ℕ) : Type 0 where
  pub reported : report ≡ report_words (report_of (step_over words cells bytes sheet output).response)
  pub tells : Stepped words cells bytes sheet output (report_from report) after out

-- What `demnyaluz_enter_string` ensures, likewise
pub record StringExported (cells units report after : List ℕ) : Type 0 where
  pub reported : (σ : Store) → report ≡ report_words (report_of (enter_over σ cells units).response)
  pub tells : StringEntered cells units (report_from report) after

-- What `demnyaluz_page` ensures, likewise
pub record PageExported (words cells : List ℕ) (o : ℕ) (output report out : List ℕ) : Type 0 where
  pub reported : report ≡ report_words (report_of (page_over words cells o output).response)
  pub tells : Paged words cells o output (report_from report) out
