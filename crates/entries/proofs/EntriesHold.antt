-- Demands 1 and 3 of every list of calls of the entries, from empty memory. Assumes nothing.
use Prim.Native.Nat.{ℕ}
use mathlib.Core.Path.{◌≡◌, refl, sym, ap, ◌∙◌, subst}
use mathlib.Core.Bool.{true}
use mathlib.Core.List.{List, [], ◌∷◌, map}
use lib.ListN.{length}
use Rattle.text.specs.Table.{strings_of}
use Rattle.store.specs.Store.{World, empty}
use Rattle.store.specs.Words.{store_of, world_of}
use Rattle.steps.specs.declared.Report.{Report}
use Rattle.steps.specs.Response.{Response, report_of}
use Rattle.steps.specs.Run.{Call, Event, effect, run_from, run, world_from}
use Rattle.demands.specs.Lasting.{Lasting}
use Rattle.demands.specs.Further.{Further}
use Rattle.demands.specs.Refusals.{StepDecided}
use Rattle.demands.specs.Pages.{PagesLast}
use Rattle.demands.proofs.LastingHolds.{lasting}
use Rattle.demands.proofs.FurtherHold.{further}
use Rattle.demands.proofs.Decided.{step-decided, entry-decided}
use Rattle.demands.proofs.PagesHold.{page-decided, pages-say, pages-last}
use Rattle.demands.proofs.PageReading.{pages-read}
use Rattle.demands.proofs.IntegrityProved.{integrity-holds}
use Rattle.demands.proofs.NamesHold.{names-decided, object-made, names-last}
use Rattle.demands.proofs.NamingHolds.{naming-decided}
use Rattle.demands.proofs.ReleasesHold.{released}
use Rattle.demands.proofs.OrderHolds.{releases-hold}
use Rattle.store.proofs.NumberLaws.{Numbered}
use Rattle.steps.proofs.Places.{coherent-at}
use Rattle.steps.proofs.Outputs.{output-is}
use Rattle.steps.proofs.Pages.{page-output-is}
use Rattle.reporting.specs.Seen.{response_seen}
use Rattle.reporting.specs.Memory.{Shown, is_memory}
use Rattle.reporting.proofs.ContractLaws.{step-shows, step-memory, entry-shows, entry-memory, page-shows}
use Rattle.entries.specs.Entries.{Memory, Called, stepped, entered, paged, Calls, none, more, reported, written, events_seen, Kept}

abbrev world : Memory → World
world m = world_of m.words m.cells

-- what one call does, as the definitions have it
record Does (m : Memory) (c : Call) (r : Report) (out : List ℕ) (n : Memory) : Type 0 where
  report : r ≡ report_of (effect (world m) c).response
  response : response_seen r out ≡ (effect (world m) c).response
  output : out ≡ written (record { call = c; response = (effect (world m) c).response })
  after : world n ≡ (effect (world m) c).world
  memory : is_memory n.words n.cells ≡ true

does : (m : Memory) → is_memory m.words m.cells ≡ true → {n : Memory} {c : Call} {r : Report} {out : List ℕ} → Called m c r out n → Does m c r out n
unfolding effect
does m h (stepped bytes sheet output r after out k) =
    let s = step-shows m.words m.cells h k in
    record {
      report = ap (λ (x : Shown). x.report) s;
      response = ap (λ (x : Shown). x.response) s;
      output = ap (λ (x : Shown). x.output) s ∙ output-is (world m) bytes sheet output;
      after = ap (λ (x : Shown). x.world) s;
      memory = step-memory m.words m.cells h k;
    }
does m h (entered units r after k) =
    let s = entry-shows m.words m.cells h k in
    record {
      report = ap (λ (x : Shown). x.report) s;
      response = ap (λ (x : Shown). x.response) s;
      output = refl;
      after = ap (λ (x : Shown). x.world) s;
      memory = entry-memory m.words m.cells h k;
    }
does m h (paged o output r out k) =
    let s = page-shows m.words m.cells h k in
    record {
      report = ap (λ (x : Shown). x.report) s;
      response = ap (λ (x : Shown). x.response) s;
      output = ap (λ (x : Shown). x.output) s ∙ page-output-is (world m) o output;
      after = ap (λ (x : Shown). x.world) s;
      memory = h;
    }

record Follows (m : Memory) (cs : List Call) (rs : List Report) (outs : List (List ℕ)) (n : Memory) : Type 0 where
  reports : rs ≡ map reported (run_from (world m) cs)
  outputs : outs ≡ map written (run_from (world m) cs)
  seen : events_seen cs rs outs ≡ run_from (world m) cs
  after : world n ≡ world_from (world m) cs (length cs)

follows : {m n : Memory} {cs : List Call} {rs : List Report} {outs : List (List ℕ)} → is_memory m.words m.cells ≡ true → Calls m cs rs outs n → Follows m cs rs outs n
unfolding run_from world_from events_seen
follows h (none m) = record { reports = refl; outputs = refl; seen = refl; after = refl }
follows h (more m k n c cs r rs out outs d ds) =
    let e = does m h d in
    let f = follows e.memory ds in
    record {
      reports = ap (λ (x : Report). x ∷ rs) e.report ∙ ap (λ (x : List Report). report_of (effect (world m) c).response ∷ x) (f.reports ∙ ap (λ (ω : World). map reported (run_from ω cs)) e.after);
      outputs = ap (λ (x : List ℕ). x ∷ outs) e.output
          ∙ ap (λ (x : List (List ℕ)). written (record { call = c; response = (effect (world m) c).response }) ∷ x) (f.outputs ∙ ap (λ (ω : World). map written (run_from ω cs)) e.after);
      seen = ap (λ (x : Response). record { call = c; response = x } ∷ events_seen cs rs outs) e.response
          ∙ ap (λ (x : List Event). record { call = c; response = (effect (world m) c).response } ∷ x) (f.seen ∙ ap (λ (ω : World). run_from ω cs) e.after);
      after = f.after ∙ ap (λ (ω : World). world_from ω cs (length cs)) e.after;
    }

-- from memory that `make_empty` has emptied
pub kept : (m n : Memory) (cs : List Call) (rs : List Report) (outs : List (List ℕ)) → is_memory m.words m.cells ≡ true → store_of m.words ≡ empty.store → strings_of m.cells ≡ []
    → Calls m cs rs outs n → Kept cs rs outs n
unfolding run
kept m n cs rs outs h s t ds =
    let z : world m ≡ empty = rw (s, t) in
    let f = follows h ds in
    let last : world n ≡ world_from empty cs (length cs) = f.after ∙ ap (λ (ω : World). world_from ω cs (length cs)) z in
    let seen : events_seen cs rs outs ≡ run cs = f.seen ∙ ap (λ (ω : World). run_from ω cs) z in
    record {
      reports-are = f.reports ∙ ap (λ (ω : World). map reported (run_from ω cs)) z;
      outputs-are = f.outputs ∙ ap (λ (ω : World). map written (run_from ω cs)) z;
      seen = seen;
      lasting = subst Lasting (sym seen) (lasting cs);
      further = subst Further (sym seen) (further cs);
      decided = λ bytes sheet output. subst (λ (ω : World). StepDecided ω bytes sheet output) (sym last) (step-decided cs (length cs) bytes sheet output);
      entry-decided = λ units. entry-decided (world n) units;
      page-decided = λ o output. page-decided (world n) o output;
      integrity = λ bytes sheet output. integrity-holds (world n) bytes sheet output;
      names = λ o. names-decided (world n) o;
      objects = λ bytes sheet output. object-made (world n) (subst (λ (ω : World). Numbered ω.store) (sym last) (coherent-at cs (length cs)).numbered) bytes sheet output;
      names-last = names-last cs;
      naming = λ o. naming-decided (store_of n.words) o;
      released = λ bytes sheet output o a. released (world n) bytes sheet output o a;
      releases = releases-hold cs;
      pages-say = pages-say cs;
      pages-last = subst PagesLast (sym seen) (pages-last cs);
      pages-read = pages-read cs;
    }
