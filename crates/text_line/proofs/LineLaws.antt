-- What a line's row and memory are after a refusal, a step and the entering of a string. Assumes nothing.
use Rattle.std.specs.Prelude.{Option, None, Some}
use Prim.Native.Nat.{ℕ, suc, ◌+◌, ◌*◌, ◌-◌, ◌/◌, ◌%◌, ◌<◌, ◌≤◌}
use native.Mathlib.Omega.{arith}
use mathlib.Core.Path.{◌≡◌, refl, sym, ap, ◌∙◌, subst}
use mathlib.Core.Bool.{Bool, true, false, false≢true}
use mathlib.Core.List.{List, [], ◌∷◌, ◌++◌}
use lib.ListN.{length, get_or, take, drop, length-append, length-replicate, take-append-drop}
use lib.Seq.{sets, take_at, length-take-le}
use borrow.Author.Tests.{leb-true, le-leb, eq-eqb, ne_eqb}
use Rattle.store.specs.Store.{World}
use Rattle.store.specs.Words.{world_of}
use Rattle.record.specs.Bytes.{value_size, are_zero}
use Rattle.steps.specs.declared.Report.{Report}
use Rattle.steps.specs.Perform as result
use Rattle.steps.specs.Response.{Effect, refusal, completion_of, outcome_of, outcome_number, refusal_or_message, report_of}
use Rattle.steps.specs.Step.{keys_bytes, output_holds, output_after, step}
use Rattle.steps.specs.StringEntry.{enter_string}
use Rattle.steps.specs.Run.{Call, effect}
use Rattle.steps.specs.Run as call
use Rattle.steps.proofs.Steps.{Ends, inadmissible, refuses, errs, throws, leaves, short, results, ends, EntryEnds, enters, entry-ends}
use Rattle.steps.proofs.Steps as entry
use Rattle.steps.proofs.Outputs.{length-keys}
use Rattle.reporting.specs.Memory.{Shown, shown, shown_by, is_memory, Stepped, StringEntered}
use Rattle.reporting.proofs.ContractLaws.{step-shows, step-memory, entry-shows, entry-memory}
use Rattle.text_form.specs.Cells.{cells_of, is_dash, some_bytes_in, units_of, units_in, sheet_in, text_in, with_unit}
use Rattle.text_form.specs.Lines.{key_room, cell_under, record_in, step_with, entry_of, call_in}
use Rattle.text_form.specs.Rows.{result_bytes, ending_bytes, row_of, row}
use Rattle.text_form.specs.Reader.{line_effect}
use Rattle.text_rows.specs.ReportRows.{completion_bytes, outcome_bytes, report_row, CompletionHeld, Held}
use Rattle.text_cells.specs.Answers.{told, decoded, Within, Located}
use Rattle.text_line.specs.Lines.{LineDone}
use Rattle.text_line.specs.Performed.{Performed}
use Rattle.text_line.specs.declared.Memory.{Memory}

-- a result's keys stand in the output, which has room for at most 256
result-told : (r : result.Result) (output : List ℕ) → length output ≤ 2304 → output_holds r output ≡ true
    → CompletionHeld (completion_of r) (output_after r output) × (completion_bytes (completion_of r) (output_after r output) ≡ result_bytes r)
result-told (result.value v) output l h = (tt, refl)
result-told (result.descriptor p) output l h = (tt, refl)
result-told result.absent output l h = (tt, refl)
result-told (result.page text) output l h = (tt, refl)
result-told (result.keys ks) output l h =
    let k : value_size * length ks ≤ length output = leb-true _ _ h in
    ((omega (arith, length-append (keys_bytes ks) (drop (value_size * length ks) output), length-keys ks), omega arith), take_at (keys_bytes ks) (drop (value_size * length ks) output) (value_size * length ks) (length-keys ks))

-- the row of the report is the row of the response
record Told (x : Effect) : Type 0 where
  held : Held (outcome_of x.response.ending) x.output
  bytes : outcome_bytes (outcome_of x.response.ending) x.output ≡ ending_bytes x.response.ending

step-told : {ω : World} {bytes sheet output : List ℕ} {x : Effect} → length output ≤ 2304 → Ends ω bytes sheet output x → Told x
step-told l (inadmissible p) = record { held = tt; bytes = refl }
step-told l (refuses p e) = record { held = tt; bytes = refl }
step-told l (errs p e u) = record { held = tt; bytes = refl }
step-told l (throws p e u) = record { held = tt; bytes = refl }
step-told l (leaves p e) = record { held = tt; bytes = refl }
step-told l (short p e u h) = record { held = tt; bytes = refl }
step-told {output = output} l (results {r = r} p e u h) = let t = result-told r output l h in record { held = t.0; bytes = t.1 }

entry-told : {ω : World} {units : List ℕ} {x : Effect} → EntryEnds ω units x → Told x
entry-told (entry.refuses e) = record { held = tt; bytes = refl }
entry-told (enters e) = record { held = tt; bytes = refl }

-- a row was written that is a response's
written : (rows rows' : List ℕ) (n size : ℕ) (r : Report) (out : List ℕ) (x : Effect) → report_row n r out ≡ report_row n (report_of x.response) x.output → Told x
    → (rows' ≡ sets rows 0 (report_row n r out)) × (size ≡ 0 + length (report_row n r out)) → (rows' ≡ sets rows 0 (row n x.response)) × (size ≡ length (row n x.response))
written rows rows' n size r out x e t w =
    let f : report_row n r out ≡ row n x.response = e ∙ ap (row_of n (outcome_number (outcome_of x.response.ending)) (refusal_or_message (outcome_of x.response.ending)) x.response.answers x.response.calls) t.bytes in
    let z : 0 + length (report_row n r out) ≡ length (report_row n r out) = omega arith in
    (w.0 ∙ ap (sets rows 0) f, w.1 ∙ z ∙ ap length f)

module _ (words cells : List ℕ) (m : is_memory words cells ≡ true) where
  pub refused-done : (rows rows' : List ℕ) (n size : ℕ) (r : Report) → r ≡ report_of (refusal 12) → (rows' ≡ sets rows 0 (report_row n r [])) × (size ≡ 0 + length (report_row n r [])) → size ≤ length rows
      → LineDone words cells rows n None words cells rows' size
  refused-done rows rows' n size r e w f =
      let p = written rows rows' n size r [] (line_effect (world_of words cells) None) (ap (λ (y : Report). report_row n y []) e) (record { held = tt; bytes = refl }) w in
      record { shows = p.0; sized = p.1; fits = f; leaves = refl; memory = m }

  module _ (bytes sheet output : List ℕ) (room : length output ≤ 2304) (r : Report) (after out : List ℕ) (h : Stepped words cells bytes sheet output r after out) where
    shows : shown r after cells out ≡ shown_by (step (world_of words cells) bytes sheet output)
    shows = step-shows words cells m h

    pub step-held : Held r.outcome out
    step-held = subst (λ (y : Shown). Held y.report.outcome y.output) (sym shows) (step-told room (ends (world_of words cells) bytes sheet output)).held

    pub step-done : (rows rows' : List ℕ) (n size : ℕ) → (rows' ≡ sets rows 0 (report_row n r out)) × (size ≡ 0 + length (report_row n r out)) → size ≤ length rows
        → LineDone words cells rows n (Some (call.step bytes sheet output)) after cells rows' size
    unfolding effect
    step-done rows rows' n size w f =
        let p = written rows rows' n size r out (step (world_of words cells) bytes sheet output) (ap (λ (y : Shown). report_row n y.report y.output) shows) (step-told room (ends (world_of words cells) bytes sheet output)) w in
        record {
          shows = p.0;
          sized = p.1;
          fits = f;
          leaves = ap (λ (y : Shown). y.world) shows;
          memory = step-memory words cells m h;
        }

  module _ (units : List ℕ) (r : Report) (after : List ℕ) (h : StringEntered cells units r after) where
    entry-report : r ≡ report_of (enter_string (world_of words cells) units).response
    entry-report = ap (λ (y : Shown). y.report) (entry-shows words cells m h)

    entry-world : world_of words after ≡ (enter_string (world_of words cells) units).world
    entry-world = ap (λ (y : Shown). y.world) (entry-shows words cells m h)

    entry-output : (enter_string (world_of words cells) units).output ≡ []
    entry-output = go (entry-ends (world_of words cells) units)
      where
        go : {x : Effect} → EntryEnds (world_of words cells) units x → x.output ≡ []
        go (entry.refuses e) = refl
        go (enters e) = refl

    pub entry-held : Held r.outcome []
    entry-held = rw (entry-report, ← entry-output) (entry-told (entry-ends (world_of words cells) units)).held

    pub entry_done : (rows rows' : List ℕ) (n size : ℕ) → (rows' ≡ sets rows 0 (report_row n r [])) × (size ≡ 0 + length (report_row n r [])) → size ≤ length rows
        → LineDone words cells rows n (Some (call.enter units)) words after rows' size
    unfolding effect
    entry_done rows rows' n size w f =
        let x = enter_string (world_of words cells) units in
        let p = written rows rows' n size r [] x (ap (λ (y : Report). report_row n y []) entry-report ∙ ap (report_row n (report_of x.response)) (sym entry-output)) (entry-told (entry-ends (world_of words cells) units)) w in
        record { shows = p.0; sized = p.1; fits = f; leaves = entry-world; memory = entry-memory words cells m h }

pub key-room : length key_room ≤ 2304
key-room = omega (arith, length-replicate {A = ℕ} 2304 0)

pub refused-held : (r : Report) → r ≡ report_of (refusal 12) → Held r.outcome []
refused-held r e = subst (λ (y : Report). Held y.outcome []) (sym e) tt

-- the same line, its call told otherwise
pub as_call : {before after : Memory} {n : ℕ} {a b : Option Call} {size : ℕ} → a ≡ b → Performed before n a after size → Performed before n b after size
as_call {before} {after} {n} {a} {b} {size} e h = subst (λ (o : Option Call). Performed before n o after size) e h

-- what was decoded of a cell
pub bytes-within : (d : Option ℕ) {n room : ℕ} → d ≡ Some n → Within d room → n ≤ room
bytes-within d {n} {room} e w = subst (λ (x : Option ℕ). Within x room) e w

pub bytes-decoded : (d : Option ℕ) (w : List ℕ) {n : ℕ} {o : Option (List ℕ)} → d ≡ Some n → decoded d w ≡ o → Some (take n w) ≡ o
bytes-decoded d w {n} {o} e h = subst (λ (x : Option ℕ). decoded x w ≡ o) e h

pub none-decoded : (d : Option ℕ) (w : List ℕ) {o : Option (List ℕ)} → d ≡ None → decoded d w ≡ o → None ≡ o
none-decoded d w {o} e h = subst (λ (x : Option ℕ). decoded x w ≡ o) e h

-- an entry by its test
pub zeros-entered : (bytes units : List ℕ) (b : Bool) → b ≡ are_zero bytes 1 57 → b ≡ true → Some (call.enter units) ≡ entry_of bytes (Some units)
zeros-entered bytes units b e h = rw (sym e ∙ h)

pub others-stepped : (bytes units : List ℕ) (b : Bool) → b ≡ are_zero bytes 1 57 → b ≡ false → Some (call.step bytes [] key_room) ≡ entry_of bytes (Some units)
others-stepped bytes units b e h = rw (sym e ∙ h)

-- a byte alone is no code unit
pub odd-units : (bytes : List ℕ) (n : ℕ) → length bytes ≡ 2 * n + 1 → units_of bytes ≡ None
unfolding units_of
odd-units [] n e = absurd (omega arith)
odd-units (a ∷ []) n e = refl
odd-units (a ∷ b ∷ bytes) n e = rw (odd-units bytes (n - 1) (omega arith))

pub odd-text : (text : List ℕ) → length text % 2 ≡ 1 → None ≡ units_of text
odd-text text h = sym (odd-units text (length text / 2) (omega arith))

one_more : (u n : ℕ) (o : Option (List ℕ)) (units : List ℕ) → ((rest : List ℕ) → o ≡ Some rest → n ≡ 2 * length rest) → with_unit u o ≡ Some units → suc (suc n) ≡ 2 * length units
one_more u n None units f e = absurd (false≢true cc)
one_more u n (Some rest) units f e = let q : u ∷ rest ≡ units = cc in omega (arith, f rest refl, ap length q)

units-length : (bytes units : List ℕ) → units_of bytes ≡ Some units → length bytes ≡ 2 * length units
unfolding units_of
units-length [] units e = let q : ◌≡◌ {A = List ℕ} [] units = cc in omega (arith, ap length q)
units-length (a ∷ []) units e = absurd (false≢true cc)
units-length (a ∷ b ∷ bytes) units e = one_more (256 * a + b) (length bytes) (units_of bytes) units (λ rest f. units-length bytes rest f) e

pub written-half : (text written : List ℕ) → units_of text ≡ Some written → length written ≡ length text / 2
written-half text written e = omega (arith, units-length text written e)

-- the front half of the room is written
pub half_length : (text units : List ℕ) → length text ≤ 2 * length units → length text / 2 ≡ length (take (length text / 2) units)
half_length text units h = sym (length-take-le (length text / 2) units (omega arith))

pub even-halved : (text units : List ℕ) → length text ≤ 2 * length units → (length text % 2 ≡ 1 → ⊥) → length text ≡ 2 * length (take (length text / 2) units)
even-halved text units h e = omega (arith, half_length text units h)

pub front_length : (n : ℕ) (written rest : List ℕ) → length written ≡ n → n ≡ length (take n (written ++ rest))
front_length n written rest e = rw (take_at written rest n e) (sym e)

pub front-units : (n : ℕ) (written rest : List ℕ) {o : Option (List ℕ)} → length written ≡ n → o ≡ Some written → Some (take n (written ++ rest)) ≡ o
front-units n written rest e h = rw (take_at written rest n e) (sym h)

-- the sheet in a cell
pub dash-sheet : (cell : List ℕ) → is_dash cell ≡ true → Some (0 ∷ []) ≡ sheet_in cell
unfolding sheet_in
dash-sheet cell h = rw h

pub some-sheet : (cell : List ℕ) {o : Option (List ℕ)} → is_dash cell ≡ false → o ≡ some_bytes_in cell → o ≡ sheet_in cell
unfolding sheet_in
some-sheet cell h e = rw h e

-- the text in a cell
pub dash-text : (cell : List ℕ) → is_dash cell ≡ true → units_of [] ≡ text_in cell
unfolding units_of text_in
dash-text cell h = rw h

pub some-text : (cell : List ℕ) {o : Option (List ℕ)} → is_dash cell ≡ false → o ≡ some_bytes_in cell → units_in o ≡ text_in cell
unfolding text_in
some-text cell h e = rw (h, e)

-- a cell is a part of its line
pub take_short : (n : ℕ) (l : List ℕ) → length (take n l) ≤ length l
take_short n l = omega (arith, length-append (take n l) (drop n l), ap length (take-append-drop n l))

drop-short : (n : ℕ) (l : List ℕ) → length (drop n l) ≤ length l
drop-short n l = omega (arith, length-append (take n l) (drop n l), ap length (take-append-drop n l))

pub cell-short : (line starts : List ℕ) (i : ℕ) {cell : List ℕ} → Located line starts → i < 7 → cell ≡ get_or (cells_of line) i [] → length cell ≤ length line
cell-short line starts i {cell} l h e =
    let from = get_or starts i 0 in
    let size = get_or starts (suc i) 0 - suc from in
    let f : length cell ≡ length (take size (drop from line)) = ap length (e ∙ sym (l.cells i h)) in
    omega (arith, f, take_short size (drop from line), drop-short from line)

module _ (columns line : List ℕ) (short : length line ≤ 16384) where
  pub no_cells : (length (cells_of line) ≡ 7 → ⊥) → None ≡ call_in columns line
  unfolding call_in
  no_cells h = rw (le-leb _ _ short, ne_eqb _ _ h)

  module _ (h : length (cells_of line) ≡ 7) (put : Bool) (bytes : List ℕ) (p : told put bytes ≡ record_in columns (cells_of line)) where
    pub no_record : put ≡ false → None ≡ call_in columns line
    unfolding call_in
    no_record k = rw (le-leb _ _ short, eq-eqb _ _ h, sym p, k)

    module _ (k : put ≡ true) (cell : List ℕ) (c : cell ≡ cell_under columns (cells_of line) 6) where
      pub entry-call : get_or bytes 0 0 ≡ 15 → entry_of bytes (text_in cell) ≡ call_in columns line
      unfolding call_in
      entry-call e = rw (le-leb _ _ short, eq-eqb _ _ h, sym p, k, eq-eqb (get_or bytes 0 0) 15 e, c)

      pub step_call : (get_or bytes 0 0 ≡ 15 → ⊥) → step_with bytes (sheet_in cell) ≡ call_in columns line
      unfolding call_in
      step_call e = rw (le-leb _ _ short, eq-eqb _ _ h, sym p, k, ne_eqb (get_or bytes 0 0) 15 e, c)
