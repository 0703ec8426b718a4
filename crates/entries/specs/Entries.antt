-- Calls of the entries one after another, nothing else writing their memory. Assumes nothing.
use Rattle.std.specs.Prelude.{ℕ, ◌≡◌, List, [], ◌∷◌, map}
use Rattle.steps.specs.declared.Report.{Report}
use Rattle.steps.specs.Operation.{release, asked}
use Rattle.steps.specs.Response.{Ending, report_of}
use Rattle.steps.specs.Step.{output_after_ending}
use Rattle.steps.specs.Run.{Call, Event, run}
use Rattle.steps.specs.Run as call
use Rattle.demands.specs.Lasting.{Lasting}
use Rattle.demands.specs.Further.{Further}
use Rattle.demands.specs.Refusals.{StepDecided, EntryDecided}
use Rattle.demands.specs.Integrity.{IntegrityHolds}
use Rattle.demands.specs.Names.{NamesDecided, ObjectMade, NamesLast}
use Rattle.demands.specs.Pages.{PageDecided, PagesSay, PagesLast, PagesRead}
use Rattle.demands.specs.Releases.{NamingDecided, Released, ReleasesHold}
use Rattle.store.specs.Words.{store_of, world_of}
use Rattle.reporting.specs.Seen.{response_seen}
use Rattle.reporting.specs.Memory.{Stepped, StringEntered, Paged}

-- the store's words and the string table's cells
pub record Memory : Type 0 where
  pub words : List ℕ
  pub cells : List ℕ

-- one call: the memory that it found, its report, the output after it, and the memory that it left, by what the entry ensures
pub data Called (m : Memory) : Call → Report → List ℕ → Memory → Type 0 where
  stepped : (bytes sheet output : List ℕ) (r : Report) (after out : List ℕ) → Stepped m.words m.cells bytes sheet output r after out
      → Called m (call.step bytes sheet output) r out (record { words = after; cells = m.cells })
  entered : (units : List ℕ) (r : Report) (after : List ℕ) → StringEntered m.cells units r after
      → Called m (call.enter units) r [] (record { words = m.words; cells = after })
  paged : (o : ℕ) (output : List ℕ) (r : Report) (out : List ℕ) → Paged m.words m.cells o output r out → Called m (call.page o output) r out m

-- each call finds exactly what its predecessor left; the last memory is what all of them left
pub data Calls : Memory → List Call → List Report → List (List ℕ) → Memory → Type 0 where
  none : (m : Memory) → Calls m [] [] [] m
  more : (m n l : Memory) (c : Call) (cs : List Call) (r : Report) (rs : List Report) (out : List ℕ) (outs : List (List ℕ)) → Called m c r out n → Calls n cs rs outs l
      → Calls m (c ∷ cs) (r ∷ rs) (out ∷ outs) l

abbrev pub reported : Event → Report
reported e = report_of e.response

-- the output that a call leaves: a key list's bytes or a page's text at the start of the one that it was lent, and the rest of that
abbrev pub output_of : Call → Ending → List ℕ
output_of (call.step bytes sheet output) ending = output_after_ending ending output
output_of (call.enter units) ending = []
output_of (call.page o output) ending = output_after_ending ending output

abbrev pub written : Event → List ℕ
written e = output_of e.call e.response.ending

-- what a caller reads from reports and outputs, a key list and a page from their bytes
unfoldable pub events_seen : List Call → List Report → List (List ℕ) → List Event
events_seen (c ∷ calls) (r ∷ reports) (out ∷ outputs) = record { call = c; response = response_seen r out } ∷ events_seen calls reports outputs
events_seen (c ∷ calls) (r ∷ reports) [] = []
events_seen (c ∷ calls) [] outputs = []
events_seen [] reports outputs = []

-- what holds of calls of the entries from memory that holds nothing
pub record Kept (calls : List Call) (reports : List Report) (outputs : List (List ℕ)) (m : Memory) : Type 0 where
  pub reports-are : reports ≡ map reported (run calls)  -- they report what the definitions' run tells
  pub outputs-are : outputs ≡ map written (run calls)  -- and write the keys and the pages that it tells, and nothing else
  pub seen : events_seen calls reports outputs ≡ run calls  -- so that what is read is that run
  pub lasting : Lasting (events_seen calls reports outputs)  -- demand 3
  pub further : Further (events_seen calls reports outputs)
  pub decided : (bytes sheet output : List ℕ) → StepDecided (world_of m.words m.cells) bytes sheet output  -- demand 1, of the step that comes next
  pub entry-decided : (units : List ℕ) → EntryDecided (world_of m.words m.cells) units  -- and of the string
  pub page-decided : (o : ℕ) (output : List ℕ) → PageDecided (world_of m.words m.cells) o output  -- and of the page
  pub integrity : (bytes sheet output : List ℕ) → IntegrityHolds (world_of m.words m.cells) bytes sheet output  -- of steps 18 and 19 that come next
  pub names : (o : ℕ) → NamesDecided (world_of m.words m.cells) o  -- which values of kinds 7 and 8 pass refusals 2 and 3
  pub objects : (bytes sheet output : List ℕ) → ObjectMade (world_of m.words m.cells) bytes sheet output  -- of steps 1, 2 and 16 that come next
  pub names-last : NamesLast calls
  pub naming : (o : ℕ) → NamingDecided (store_of m.words) o  -- what refusal 14 looks at
  pub released : (bytes sheet output : List ℕ) (o : ℕ) → asked bytes ≡ release o → Released (world_of m.words m.cells) bytes sheet output o  -- of a release that comes next
  pub releases : ReleasesHold calls  -- what is named is live, and which number comes next
  pub pages-say : PagesSay calls  -- a page says what [[OwnPropertyKeys]] and [[GetOwnProperty]] answer
  pub pages-last : PagesLast (events_seen calls reports outputs)  -- what was once reported fixed is so on every later page
  pub pages-read : PagesRead calls  -- keys and properties are read back from a page's bytes
