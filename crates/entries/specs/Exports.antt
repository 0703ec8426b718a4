-- Calls of the exported functions one after another: each report is ten words. Assumes nothing.
use Rattle.std.specs.Prelude.{ℕ, ◌≡◌, List, [], ◌∷◌, map}
use Rattle.steps.specs.Run.{Call, Event, run}
use Rattle.steps.specs.Run as call
use Rattle.reporting.specs.ReportWords.{report_words, report_from}
use Rattle.reporting.specs.Memory.{StepExported, StringExported, PageExported}
use Rattle.entries.specs.Entries.{Memory, reported, Kept}

-- one call of `demnyaluz_step`, `demnyaluz_enter_string` or `demnyaluz_page`: its report's words, the output after it, and the memory that it left
pub data Exported (m : Memory) : Call → List ℕ → List ℕ → Memory → Type 0 where
  stepped : (bytes sheet output report after out : List ℕ) → StepExported m.words m.cells bytes sheet output report after out
      → Exported m (call.step bytes sheet output) report out (record { words = after; cells = m.cells })
  entered : (units report after : List ℕ) → StringExported m.cells units report after → Exported m (call.enter units) report [] (record { words = m.words; cells = after })
  paged : (o : ℕ) (output report out : List ℕ) → PageExported m.words m.cells o output report out → Exported m (call.page o output) report out m

pub data ExportedCalls : Memory → List Call → List (List ℕ) → List (List ℕ) → Memory → Type 0 where
  none : (m : Memory) → ExportedCalls m [] [] [] m
  more : (m n l : Memory) (c : Call) (cs : List Call) (report : List ℕ) (reports : List (List ℕ)) (out : List ℕ) (outs : List (List ℕ)) → Exported m c report out n
      → ExportedCalls n cs reports outs l → ExportedCalls m (c ∷ cs) (report ∷ reports) (out ∷ outs) l

abbrev pub words_reported : Event → List ℕ
words_reported e = report_words (reported e)

-- what holds of them from memory that holds nothing
pub record KeptByWords (calls : List Call) (reports outputs : List (List ℕ)) (m : Memory) : Type 0 where
  pub words_are : reports ≡ map words_reported (run calls)  -- every word of every report
  pub told : Kept calls (map report_from reports) outputs m  -- all that holds of calls of the entries, of the reports that the words tell
