-- What a reader's memory holds after each of its writes. Assumes nothing.
use Rattle.std.specs.Prelude.{Option, None, Some}
use Prim.Native.Nat.{ℕ, zero, suc, ◌+◌, ◌≤◌, ◌<◌}
use native.Mathlib.Numerals.{add-one}
use native.Mathlib.Omega.{arith}
use mathlib.Core.Path.{◌≡◌, refl, sym, ap, ◌∙◌}
use mathlib.Core.Bool.{Bool, true, false, cond, false≢true}
use mathlib.Core.List.{List, [], ◌∷◌, ◌++◌, append-nil}
use lib.Dec.{leb, ltb, eqb}
use lib.ListN.{length, get_or, take, drop, set, length-append, length-drop, drop_of_length-le}
use lib.Seq.{sets, sets-eq, paste, take_at, drop_at, take-length, length-take-le, take_all, drop-set-lt}
use borrow.Author.Tests.{lt-ltb, le-ltb, eq-eqb, ne_eqb, eqb-true, ltb-true, leb-true}
use Rattle.value.proofs.Bools.{and-true}
use Rattle.store.specs.Words.{world_of}
use Rattle.record.specs.Characters.{line_feed}
use Rattle.reporting.specs.Memory.{is_memory}
use Rattle.text_cells.specs.Answers.{AreColumns}
use Rattle.text_form.specs.Cells.{until}
use Rattle.text_form.specs.Lines.{maximum_line, call_in}
use Rattle.text_form.specs.Rows.{heading, row}
use Rattle.text_form.specs.Reader.{first, later, ended, Reader, reader, Read, read, is_ended, added, kept, Fits, columns_in, line_call, line_effect, has_begun, last_line, close, end_input, end_line, read_bytes}
use Rattle.text_form.proofs.NameLaws.{names-once}
use Rattle.text_form.proofs.ReaderLaws.{piece-kept, piece-ends}
use Rattle.byte_records.proofs.ByteLaws.{sets-append}
use Rattle.steps.specs.Response.{refusal, report_of}
use Rattle.steps.specs.declared.Report.{Report}
use Rattle.steps.specs.Run.{Call}
use Rattle.text_rows.specs.ReportRows.{report_row, maximum_row}
use Rattle.text_line.specs.Lines.{row_room, LineDone}
use Rattle.std.proofs.Common.{◌⊎◌, inl, inr}
use Rattle.text_reader.specs.declared.Phase.{Phase}
use Rattle.text_reader.specs.declared.Phase.TheVariants.{First, Later}
use Rattle.text_reader.specs.declared.Progress.{Progress}
use Rattle.text_reader.specs.Reading.{phase_as}
use Rattle.text_reader.specs.Memory.{state_size, column_words, phase_of, phase_in, line_of, reader_of, are_below, maximum_count, is_state, is_reader, taken_of, is_accepted, Ended}

-- The state ----------------------------------------------------------------------------

pub state-parts : (state : List ℕ) → is_state state ≡ true → (length state ≡ state_size) × ((are_below 7 (column_words state) ≡ true) × (get_or state 1 0 < maximum_count))
unfolding is_state
state-parts state h =
    let p = and-true (eqb (length state) state_size) _ h in
    let q = and-true (are_below 7 (column_words state)) _ p.1 in
    (eqb-true _ _ p.0, (q.0, ltb-true _ _ q.1))

pub state-joined : (state : List ℕ) → length state ≡ state_size → are_below 7 (column_words state) ≡ true → ltb (get_or state 1 0) maximum_count ≡ true → is_state state ≡ true
unfolding is_state
state-joined state l b n = rw (eq-eqb _ _ l, b, n)

pub reader-parts : (words cells state line rows : List ℕ) → is_accepted words cells state line rows ≡ true
    → (is_memory words cells ≡ true) × ((is_state state ≡ true) × ((length line ≡ maximum_line) × (row_room ≤ length rows)))
unfolding is_reader
reader-parts words cells state line rows h =
    let p = and-true (is_reader words cells state line) _ h in
    let q = and-true (is_memory words cells) _ p.0 in
    let r = and-true (is_state state) _ q.1 in
    (q.0, (r.0, (eqb-true _ _ r.1, leb-true _ _ p.1)))

pub reader-joined : (words cells state line : List ℕ) → is_memory words cells ≡ true → is_state state ≡ true → length line ≡ maximum_line → is_reader words cells state line ≡ true
unfolding is_reader
reader-joined words cells state line m s l = rw (m, s, eq-eqb _ _ l)

-- Phases -------------------------------------------------------------------------------

pub phase_first : (p : ℕ) (columns : List ℕ) → p ≡ 0 → phase_of p columns ≡ first
unfolding phase_of
phase_first p columns e = rw e

pub phase_later : (p : ℕ) (columns : List ℕ) → p ≡ 1 → phase_of p columns ≡ later columns
unfolding phase_of
phase_later p columns e = rw e

pub phase_ended : (p : ℕ) (columns : List ℕ) → (p ≡ 0 → ⊥) → (p ≡ 1 → ⊥) → phase_of p columns ≡ ended
unfolding phase_of
phase_ended p columns f l = rw (ne_eqb p 0 f, ne_eqb p 1 l)

-- a reader that has not ended
pub phase-open : (p : Phase) (state : List ℕ) → phase_in state ≡ phase_as p (column_words state) → (p ≡ First) ⊎ (p ≡ Later) → is_ended (phase_in state) ≡ false
phase-open p state e (inl i) = rw (e, i)
phase-open p state e (inr i) = rw (e, i)

-- Lines --------------------------------------------------------------------------------

pub fits_line : (size : ℕ) (line : List ℕ) → length line ≡ maximum_line → Fits (line_of size line)
fits_line size line l = go (leb size maximum_line) refl
  where
    go : (b : Bool) → leb size maximum_line ≡ b → Fits (cond b (Some (take size line)) None)
    go true e = let h = leb-true size maximum_line e in let k = length-take-le size line (omega arith) in omega (arith, k)
    go false e = tt

pub begun-line : (size : ℕ) (line : List ℕ) → length line ≡ maximum_line → (size ≡ 0 → ⊥) → has_begun (line_of size line) ≡ true
begun-line zero line l h = absurd (h refl)
begun-line (suc n) [] l h = absurd (omega arith)
begun-line (suc n) (b ∷ line) l h = go (leb (suc n) maximum_line)
  where
    go : (t : Bool) → has_begun (cond t (Some (b ∷ take n line)) None) ≡ true
    go true = refl
    go false = refl

-- Writes of the state ------------------------------------------------------------------

module _ (words cells line : List ℕ) where
  pub kept-state : (state line' piece : List ℕ) (size : ℕ) → length state ≡ state_size → line_of size line' ≡ added (line_of (get_or state 2 0) line) piece
      → reader_of words cells (set state 2 size) line' ≡ kept (reader_of words cells state line) piece
  unfolding reader_of
  kept-state [] line' piece size l h = absurd (omega arith)
  kept-state (a ∷ []) line' piece size l h = absurd (omega arith)
  kept-state (a ∷ b ∷ []) line' piece size l h = absurd (omega arith)
  kept-state (a ∷ b ∷ d ∷ columns) line' piece size l h = rw h

  pub closed-state : (state : List ℕ) → length state ≡ state_size → reader_of words cells (set (set state 0 2) 2 0) line ≡ close (reader_of words cells state line)
  unfolding reader_of phase_of
  closed-state [] l = absurd (omega arith)
  closed-state (a ∷ []) l = absurd (omega arith)
  closed-state (a ∷ b ∷ []) l = absurd (omega arith)
  closed-state (a ∷ b ∷ d ∷ columns) l = refl

  -- the line that has begun is empty, in a later phase: there is no last line
  pub last-nothing : (state : List ℕ) → phase_in state ≡ later (column_words state) → get_or state 2 0 ≡ 0 → read (reader_of words cells state line) [] ≡ last_line (reader_of words cells state line) (phase_in state)
  unfolding reader_of
  last-nothing state e z = rw (e, z)

  pub last-first : (state : List ℕ) {o : Option (List ℕ)} → phase_in state ≡ first → o ≡ line_of (get_or state 2 0) line
      → end_line (reader (phase_in state) (get_or state 1 0) o (world_of words cells)) (phase_in state) ≡ last_line (reader_of words cells state line) (phase_in state)
  unfolding reader_of
  last-first state e q = rw (q, e)

  pub last-later : (state : List ℕ) {o : Option (List ℕ)} → phase_in state ≡ later (column_words state) → o ≡ line_of (get_or state 2 0) line → has_begun o ≡ true
      → end_line (reader (phase_in state) (get_or state 1 0) o (world_of words cells)) (phase_in state) ≡ last_line (reader_of words cells state line) (phase_in state)
  unfolding reader_of
  last-later state e q h = rw (e, sym q, h)

pub state-closed : (state : List ℕ) → length state ≡ state_size → are_below 7 (column_words state) ≡ true → ltb (get_or (set (set state 0 2) 2 0) 1 0) maximum_count ≡ true → is_state (set (set state 0 2) 2 0) ≡ true
unfolding is_state
state-closed [] l c h = absurd (omega arith)
state-closed (a ∷ []) l c h = absurd (omega arith)
state-closed (a ∷ b ∷ []) l c h = absurd (omega arith)
state-closed (a ∷ b ∷ d ∷ columns) l c h = rw (eq-eqb _ _ l, c, h)

-- Pieces -------------------------------------------------------------------------------

pub taken-all : (piece : List ℕ) (n : ℕ) → n ≡ until line_feed piece → n ≡ length piece → n ≡ taken_of false piece
taken-all piece n e l = rw (le-ltb (until line_feed piece) (length piece) (omega arith)) l

pub taken-line : (piece : List ℕ) (n : ℕ) → n ≡ until line_feed piece → n < length piece → n + 1 ≡ taken_of false piece
taken-line piece n e l = rw (lt-ltb (until line_feed piece) (length piece) (omega arith)) (omega arith)

module _ (words cells state line piece : List ℕ) (n size : ℕ) (l : length line ≡ maximum_line) (s : length state ≡ state_size) (unended : is_ended (phase_in state) ≡ false) (e : n ≡ until line_feed piece) where
  abbrev r : Reader
  r = reader_of words cells state line

  opened : is_ended r.phase ≡ false
  unfolding reader_of
  opened = unended

  fits : Fits r.line
  unfolding reader_of
  fits = fits_line (get_or state 2 0) line l

  -- a piece without a line feed
  pub reads_kept : (line' : List ℕ) → n ≡ length piece → line_of size line' ≡ added (line_of (get_or state 2 0) line) (take n piece)
      → read (reader_of words cells (set state 2 size) line') [] ≡ read_bytes r (take n piece)
  reads_kept line' k h =
      let q : take n piece ≡ piece = take_all n piece (omega arith) in
      rw q (ap (λ (x : Reader). read x []) (kept-state words cells line state line' piece size s (h ∙ ap (added (line_of (get_or state 2 0) line)) q))
      ∙ sym (piece-kept r opened fits piece (sym e ∙ k)))

  -- a piece up to and with its line feed
  pub reads-line : (line' : List ℕ) {x : Read} {o : Option (List ℕ)} → n < length piece → line_of size line' ≡ added (line_of (get_or state 2 0) line) (take n piece) → o ≡ line_of size line'
      → x ≡ end_line (reader (phase_in state) (get_or state 1 0) o (world_of words cells)) (phase_in state) → x ≡ read_bytes r (take (n + 1) piece)
  unfolding reader_of
  reads-line line' k h f g =
      let q : n + 1 ≡ suc (until line_feed piece) = omega arith in
      g
      ∙ ap (λ (o : Option (List ℕ)). end_line (reader (phase_in state) (get_or state 1 0) o (world_of words cells)) (phase_in state)) (f ∙ h ∙ ap (λ (m : ℕ). added (line_of (get_or state 2 0) line) (take m piece)) e)
      ∙ sym (piece-ends r opened fits piece (omega arith))
      ∙ ap (λ (m : ℕ). read_bytes r (take m piece)) (sym q)

-- The end of the input -----------------------------------------------------------------

pub ends-input : (words cells state line words' cells' state' rows : List ℕ) → length state' ≡ state_size
    → read (reader_of words' cells' state' line) rows ≡ last_line (reader_of words cells state line) (phase_in state)
    → read (reader_of words' cells' (set (set state' 0 2) 2 0) line) rows ≡ end_input (reader_of words cells state line)
unfolding end_input reader_of
ends-input words cells state line words' cells' state' rows l h =
    ap (λ (x : Reader). read x rows) (closed-state words' cells' line state' l) ∙ ap (λ (x : Read). read (close x.reader) x.rows) h

-- Names --------------------------------------------------------------------------------

below_all : (n : ℕ) (xs : List ℕ) → ((i : ℕ) → i < length xs → get_or xs i 0 < n) → are_below n xs ≡ true
unfolding are_below
below_all n [] h = refl
below_all n (x ∷ xs) h = rw (lt-ltb x n (h 0 (omega arith))) (below_all n xs (λ i l. h (suc i) (omega arith)))

below_each : (n : ℕ) (xs : List ℕ) → are_below n xs ≡ true → (i : ℕ) → i < length xs → get_or xs i 0 < n
unfolding are_below
below_each n [] h i l = absurd (omega arith)
below_each n (x ∷ xs) h zero l = ltb-true x n (and-true (ltb x n) _ h).0
below_each n (x ∷ xs) h (suc i) l = below_each n xs (and-true (ltb x n) _ h).1 i (omega arith)

pub are-columns : (state : List ℕ) → length state ≡ state_size → are_below 7 (column_words state) ≡ true → AreColumns (column_words state)
are-columns state l b =
    let e : length (column_words state) ≡ 7 = length-drop 3 state ∙ rw l in
    record { seven = e; below = λ i k. below_each 7 (column_words state) b i (omega arith) }

named-state : (state columns : List ℕ) → length state ≡ state_size → length columns ≡ 7 → paste state 3 columns (length columns) ≡ get_or state 0 0 ∷ get_or state 1 0 ∷ get_or state 2 0 ∷ columns
named-state [] columns l k = absurd (omega arith)
named-state (a ∷ []) columns l k = absurd (omega arith)
named-state (a ∷ b ∷ []) columns l k = absurd (omega arith)
named-state (a ∷ b ∷ d ∷ rest) columns l k =
    let z : length (a ∷ b ∷ d ∷ rest) ≤ 3 + length columns = omega arith in
    rw (drop_of_length-le (a ∷ b ∷ d ∷ rest) {i = 3 + length columns} z, take-length columns) (append-nil (a ∷ b ∷ d ∷ columns))

-- the columns of a line's names: seven, each of a cell
pub names-seven : (columns : List ℕ) (o : Option (List ℕ)) → columns_in o ≡ Some columns → length columns ≡ 7
names-seven columns None e = absurd (false≢true cc)
names-seven columns (Some line) e = (names-once line columns e).seven

names-below : (columns : List ℕ) (o : Option (List ℕ)) → columns_in o ≡ Some columns → are_below 7 columns ≡ true
names-below columns None e = absurd (false≢true cc)
names-below columns (Some line) e = let once = names-once line columns e in below_all 7 columns (λ i m. once.below i (omega (arith, once.seven)))

pub named-columns : (state columns : List ℕ) (o : Option (List ℕ)) → length state ≡ state_size → columns_in o ≡ Some columns → column_words (paste state 3 columns (length columns)) ≡ columns
named-columns state columns o l e = rw (named-state state columns l (names-seven columns o e)) refl

pub named-below : (state columns : List ℕ) (o : Option (List ℕ)) → length state ≡ state_size → columns_in o ≡ Some columns → are_below 7 (column_words (paste state 3 columns (length columns))) ≡ true
named-below state columns o l e = rw (named-columns state columns o l e) (names-below columns o e)

pub named-length : (state columns : List ℕ) (o : Option (List ℕ)) → length state ≡ state_size → columns_in o ≡ Some columns → length (paste state 3 columns (length columns)) ≡ state_size
named-length state columns o l e = rw (named-state state columns l (names-seven columns o e)) (omega (arith, names-seven columns o e))

-- Rows ---------------------------------------------------------------------------------

taken-sets : (rows xs : List ℕ) → length xs ≤ length rows → take (length xs) (sets rows 0 xs) ≡ xs
taken-sets rows xs h = ap (take (length xs)) (sets-eq xs rows 0 (omega arith)) ∙ take_at xs (drop (0 + length xs) rows) (length xs) refl

dropped-sets : (rows xs : List ℕ) → length xs ≤ length rows → drop (length xs) (sets rows 0 xs) ≡ drop (length xs) rows
dropped-sets rows xs h =
    let z : 0 + length xs ≡ length xs = omega arith in
    ap (drop (length xs)) (sets-eq xs rows 0 (omega arith)) ∙ drop_at xs (drop (0 + length xs) rows) (length xs) refl ∙ ap (λ (k : ℕ). drop k rows) z

-- a row from the start on
pub row-read : (rows rows' xs : List ℕ) (n : ℕ) → n ≡ length xs → length xs ≤ length rows → rows' ≡ sets rows 0 xs → (take n rows' ≡ xs) × ((drop n rows' ≡ drop n rows) × (n ≤ length rows))
row-read rows rows' xs n l w e = (rw (l, e) (taken-sets rows xs w), (rw (l, e) (dropped-sets rows xs w), omega arith))

-- the heading and row 0
pub broken-row : (rows rows1 rows' out : List ℕ) (n : ℕ) (report : Report) → row_room ≤ length rows → rows1 ≡ sets rows 0 heading → report ≡ report_of (refusal 12)
    → (rows' ≡ sets rows1 40 (report_row 0 report out)) × (n ≡ 40 + length (report_row 0 report out)) → n ≤ 40 + maximum_row
    → (take n rows' ≡ heading ++ row 0 (refusal 12)) × ((drop n rows' ≡ drop n rows) × (n ≤ length rows))
broken-row rows rows1 rows' out n report room h e w b =
    let g : rows' ≡ sets rows 0 (heading ++ row 0 (refusal 12)) = rw (h, e) at w.0 ∙ sym (sets-append heading rows 0 (row 0 (refusal 12))) in
    let l : n ≡ length (heading ++ row 0 (refusal 12)) = rw e at w.1 ∙ sym (length-append heading (row 0 (refusal 12))) in
    row-read rows rows' (heading ++ row 0 (refusal 12)) n l (omega arith) g

-- Lines that are complete ----------------------------------------------------------------

module _ (words cells : List ℕ) where
  first_reads : (state columns bytes : List ℕ) (o : Option (List ℕ)) → length state ≡ state_size → phase_in state ≡ first → columns_in o ≡ Some columns
      → read (reader_of words cells (set (paste (set state 2 0) 3 columns (length columns)) 0 1) bytes) heading ≡ end_line (reader (phase_in state) (get_or state 1 0) o (world_of words cells)) (phase_in state)
  unfolding reader_of end_line
  first_reads [] columns bytes o l e n = absurd (omega arith)
  first_reads (a ∷ []) columns bytes o l e n = absurd (omega arith)
  first_reads (a ∷ b ∷ []) columns bytes o l e n = absurd (omega arith)
  first_reads (a ∷ b ∷ d ∷ rest) columns bytes o l e n =
      ap (λ (state : List ℕ). read (reader_of words cells (set state 0 1) bytes) heading) (named-state (a ∷ b ∷ 0 ∷ rest) columns l (names-seven columns o n)) ∙ rw (e, n, phase_later 1 columns refl)

  -- the names' columns are copied into the state
  pub first_ended : (state columns state1 rows' bytes : List ℕ) (o : Option (List ℕ)) → length state ≡ state_size → phase_in state ≡ first → columns_in o ≡ Some columns
      → state1 ≡ paste (set state 2 0) 3 columns (length columns) → take 40 rows' ≡ heading
      → read (reader_of words cells (set state1 0 1) bytes) (take 40 rows') ≡ end_line (reader (phase_in state) (get_or state 1 0) o (world_of words cells)) (phase_in state)
  first_ended state columns state1 rows' bytes o l e n s t = rw (s, t) (first_reads state columns bytes o l e n)

  broken-reads : (state bytes : List ℕ) (o : Option (List ℕ)) → length state ≡ state_size → phase_in state ≡ first → columns_in o ≡ None
      → read (reader_of words cells (set (set state 2 0) 0 2) bytes) (heading ++ row 0 (refusal 12)) ≡ end_line (reader (phase_in state) (get_or state 1 0) o (world_of words cells)) (phase_in state)
  unfolding reader_of end_line
  broken-reads [] bytes o l e n = absurd (omega arith)
  broken-reads (a ∷ []) bytes o l e n = absurd (omega arith)
  broken-reads (a ∷ b ∷ []) bytes o l e n = absurd (omega arith)
  broken-reads (a ∷ b ∷ d ∷ rest) bytes o l e n = rw (e, n, phase_ended 2 rest (λ h. omega arith) (λ h. omega arith))

  pub broken-ended : (state rows' bytes : List ℕ) (n : ℕ) (o : Option (List ℕ)) → length state ≡ state_size → phase_in state ≡ first → columns_in o ≡ None → take n rows' ≡ heading ++ row 0 (refusal 12)
      → read (reader_of words cells (set (set state 2 0) 0 2) bytes) (take n rows') ≡ end_line (reader (phase_in state) (get_or state 1 0) o (world_of words cells)) (phase_in state)
  broken-ended state rows' bytes n o l e m t = rw t (broken-reads state bytes o l e m)

  later-reads : (state words' cells' bytes : List ℕ) (line : Option (List ℕ)) {o : Option Call} → length state ≡ state_size → phase_in state ≡ later (column_words state) → line_call (column_words state) line ≡ o
      → world_of words' cells' ≡ (line_effect (world_of words cells) o).world
      → read (reader_of words' cells' (set (set state 1 (get_or state 1 0 + 1)) 2 0) bytes) (row (get_or state 1 0 + 1) (line_effect (world_of words cells) o).response)
      ≡ end_line (reader (phase_in state) (get_or state 1 0) line (world_of words cells)) (phase_in state)
  unfolding reader_of end_line
  later-reads [] words' cells' bytes line l e q w = absurd (omega arith)
  later-reads (a ∷ []) words' cells' bytes line l e q w = absurd (omega arith)
  later-reads (a ∷ b ∷ []) words' cells' bytes line l e q w = absurd (omega arith)
  later-reads (a ∷ b ∷ d ∷ columns) words' cells' bytes line l e q w = rw (e, q, add-one b, w)

  pub later-ended : (state rows words' cells' rows' bytes : List ℕ) (n : ℕ) (line : Option (List ℕ)) {o : Option Call} → length state ≡ state_size → phase_in state ≡ later (column_words state) → line_call (column_words state) line ≡ o
      → LineDone words cells rows (get_or state 1 0 + 1) o words' cells' rows' n
      → read (reader_of words' cells' (set (set state 1 (get_or state 1 0 + 1)) 2 0) bytes) (take n rows') ≡ end_line (reader (phase_in state) (get_or state 1 0) line (world_of words cells)) (phase_in state)
  later-ended state rows words' cells' rows' bytes n line {o = o} l e q d = rw (row-read rows rows' (row (get_or state 1 0 + 1) (line_effect (world_of words cells) o).response) n d.sized (omega (arith, d.sized, d.fits)) d.shows).0 (later-reads state words' cells' bytes line l e q d.leaves)

  pub later-rest : (rows words' cells' rows' : List ℕ) (number n : ℕ) {o : Option Call} → LineDone words cells rows number o words' cells' rows' n → drop n rows' ≡ drop n rows
  later-rest rows words' cells' rows' number n {o = o} d = (row-read rows rows' (row number (line_effect (world_of words cells) o).response) n d.sized (omega (arith, d.sized, d.fits)) d.shows).1.0

-- the columns, once the state's count and size are written
later-words : (state : List ℕ) (n : ℕ) → column_words (set (set state 1 n) 2 0) ≡ column_words state
later-words state n = drop-set-lt 3 (set state 1 n) 2 0 (omega arith) ∙ drop-set-lt 3 state 1 n (omega arith)

pub later-columns : (state columns : List ℕ) (n : ℕ) → length state ≡ state_size → are_below 7 (column_words state) ≡ true → columns ≡ column_words (set (set state 1 n) 2 0) → AreColumns columns
later-columns state columns n l b e = rw (e, later-words state n) (are-columns state l b)

pub later-call : (state columns line : List ℕ) (n : ℕ) → columns ≡ column_words (set (set state 1 n) 2 0) → line_call (column_words state) (Some line) ≡ call_in columns line
later-call state columns line n e = rw (e, later-words state n)

-- memory told otherwise
pub ended-as : {words cells state line rows : List ℕ} {p : Progress} {words' cells' state' rows' : List ℕ} (words1 cells1 state1 rows1 : List ℕ) → words' ≡ words1 → cells' ≡ cells1 → state' ≡ state1 → rows' ≡ rows1
    → Ended words cells state line rows p words1 cells1 state1 rows1 → Ended words cells state line rows p words' cells' state' rows'
ended-as words1 cells1 state1 rows1 w c s r h = rw (w, c, s, r) h
