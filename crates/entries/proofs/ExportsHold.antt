-- Demands 1 and 3 of every list of calls of the exported functions, from empty memory. Assumes nothing.
use Prim.Native.Nat.{ℕ}
use mathlib.Core.Path.{◌≡◌, refl, sym, ap, ◌∙◌}
use mathlib.Core.Bool.{true}
use mathlib.Core.List.{List, [], ◌∷◌, map}
use Rattle.text.specs.Table.{strings_of}
use Rattle.store.specs.Store.{empty}
use Rattle.store.specs.Words.{store_of}
use Rattle.steps.specs.declared.Report.{Report}
use Rattle.steps.specs.Run.{Call, Event, run}
use Rattle.reporting.specs.ReportWords.{report_words, report_from}
use Rattle.reporting.specs.Memory.{is_memory}
use Rattle.reporting.proofs.ContractLaws.{step-report, entry-report, page-report}
use Rattle.entries.specs.Entries.{Memory, Called, Calls, reported, Kept}
use Rattle.entries.specs.Entries as entry
use Rattle.entries.specs.Exports.{Exported, stepped, entered, paged, ExportedCalls, none, more, words_reported, KeptByWords}
use Rattle.entries.proofs.EntriesHold.{kept}

called : {m n : Memory} {c : Call} {report out : List ℕ} → Exported m c report out n → Called m c (report_from report) out n
called (stepped bytes sheet output report after out h) = entry.stepped bytes sheet output (report_from report) after out h.tells
called (entered units report after h) = entry.entered units (report_from report) after h.tells
called (paged o output report out h) = entry.paged o output (report_from report) out h.tells

-- the words are those of the report that they tell
words-of-told : {m n : Memory} {c : Call} {report out : List ℕ} → Exported m c report out n → report ≡ report_words (report_from report)
words-of-told (stepped bytes sheet output report after out h) = h.reported ∙ ap report_words (sym (step-report h.tells))
words-of-told {m} (entered units report after h) = h.reported (store_of m.words) ∙ ap report_words (sym (entry-report h.tells (store_of m.words)))
words-of-told (paged o output report out h) = h.reported ∙ ap report_words (sym (page-report h.tells))

calls : {m n : Memory} {cs : List Call} {reports outs : List (List ℕ)} → ExportedCalls m cs reports outs n → Calls m cs (map report_from reports) outs n
calls (none m) = entry.none m
calls (more m k n c cs report reports out outs d ds) = entry.more m k n c cs (report_from report) (map report_from reports) out outs (called d) (calls ds)

words-told : {m n : Memory} {cs : List Call} {reports outs : List (List ℕ)} → ExportedCalls m cs reports outs n → reports ≡ map report_words (map report_from reports)
words-told (none m) = refl
words-told (more m k n c cs report reports out outs d ds) =
    ap (λ (x : List ℕ). x ∷ reports) (words-of-told d) ∙ ap (λ (x : List (List ℕ)). report_words (report_from report) ∷ x) (words-told ds)

map-twice : (es : List Event) → map report_words (map reported es) ≡ map words_reported es
map-twice [] = refl
map-twice (e ∷ es) = ap (λ (x : List (List ℕ)). words_reported e ∷ x) (map-twice es)

pub kept-by-words : (m n : Memory) (cs : List Call) (reports outs : List (List ℕ)) → is_memory m.words m.cells ≡ true → store_of m.words ≡ empty.store → strings_of m.cells ≡ []
    → ExportedCalls m cs reports outs n → KeptByWords cs reports outs n
kept-by-words m n cs reports outs h s t ds =
    let k = kept m n cs (map report_from reports) outs h s t (calls ds) in
    record {
      words_are = words-told ds ∙ ap (λ (rs : List Report). map report_words rs) k.reports-are ∙ map-twice (run cs);
      told = k;
    }
