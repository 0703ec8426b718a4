-- A text fed in pieces of any size gives the rows of the whole text. Assumes nothing.
use Rattle.std.specs.Prelude.{Option, None, Some}
use Prim.Native.Nat.{ℕ, suc, ◌+◌, ◌≤◌, ◌<◌}
use native.Mathlib.Omega.{arith}
use mathlib.Core.Path.{◌≡◌, refl, sym, ap, ◌∙◌}
use mathlib.Core.Bool.{Bool, true, false, cond}
use mathlib.Core.List.{List, [], ◌∷◌, ◌++◌, append_assoc}
use lib.Dec.{eqb, ltb}
use lib.ListN.{length, get_or, take, drop, length-append, length-drop, take-append-drop}
use lib.Seq.{take-append-le, length-take-le}
use borrow.Author.Tests.{ltb-true, lt-ltb, leb-false}
use Rattle.record.specs.Characters.{line_feed}
use Rattle.text_form.specs.Cells.{until}
use Rattle.text_form.specs.Reader.{Phase, first, later, Reader, Read, read, is_ended, start, columns_in, named, end_line, read_byte, read_bytes, end_input}
use Rattle.text_form.specs.Reader as reader
use Rattle.text_form.proofs.ReaderLaws.{read-append, ended-reads}
use Rattle.text_form.proofs.WholeText.{whole}
use Rattle.text_form.proofs.TextLaws.{text-kept}
use Rattle.text_reader.specs.declared.Progress.{Progress}
use Rattle.text_line.specs.Lines.{row_room}
use Rattle.text_reader.specs.Memory.{phase_in, reader_of, is_reader, maximum_count, is_accepted, taken_of, Untouched}
use Rattle.entries.specs.Texts.{ReaderMemory, Begun, FeedCalled, after_end, Feeds, fed, ended, feed-refused, end_refused, TextFed, Advances, RefusedForRoom}

-- What is taken ------------------------------------------------------------------------------

taken-within : (e : Bool) (piece : List ℕ) → taken_of e piece ≤ length piece
taken-within true piece = omega arith
taken-within false piece = go (ltb (until line_feed piece) (length piece)) refl
  where
    go : (t : Bool) → ltb (until line_feed piece) (length piece) ≡ t → cond t (suc (until line_feed piece)) (length piece) ≤ length piece
    go true h = omega (arith, ltb-true (until line_feed piece) (length piece) h)
    go false h = omega arith

taken-some : (piece : List ℕ) → 0 < length piece → 0 < taken_of false piece
taken-some piece l = go (ltb (until line_feed piece) (length piece))
  where
    go : (t : Bool) → 0 < cond t (suc (until line_feed piece)) (length piece)
    go true = omega arith
    go false = l

pub advances : {m n : ReaderMemory} {piece lent rows : List ℕ} {p : Progress} → FeedCalled m piece lent p n rows → p.accepted ≡ true → Advances m.state piece p
advances {m} {n} {piece} {lent} {rows} {p} f a = record {
  within = rw (f.takes a) (taken-within (is_ended (phase_in m.state)) piece);
  takes-some = λ e l. rw (f.takes a) (rw e (taken-some piece l));
  takes_none = λ z l. go (is_ended (phase_in m.state)) (sym (f.takes a) ∙ z) l;
}
  where
    go : (t : Bool) → taken_of t piece ≡ 0 → 0 < length piece → t ≡ true
    go true h l = refl
    go false h l = absurd (omega (arith, taken-some piece l))

-- Reading to the end -------------------------------------------------------------------------

-- all of an input, and its end
abbrev all_read : Reader → List ℕ → Read
all_read r input =
    let bytes = read_bytes r input in
    let last = end_input bytes.reader in
    read last.reader (bytes.rows ++ last.rows)

-- and after what was read before
abbrev all_after : Read → Read → Read
all_after one all = read all.reader (one.rows ++ all.rows)

all_append : (r : Reader) (a b : List ℕ) → all_read r (a ++ b) ≡ all_after (read_bytes r a) (all_read (read_bytes r a).reader b)
all_append r a b =
    ap (λ (x : Read). read (end_input x.reader).reader (x.rows ++ (end_input x.reader).rows)) (read-append r a b)
    ∙ ap (read _) (append_assoc (read_bytes r a).rows _ _)

all_none : (r : Reader) → all_read r [] ≡ end_input r
unfolding read_bytes
all_none r = refl

is-ended : (p : Phase) → is_ended p ≡ true → p ≡ reader.ended
is-ended first h = cc
is-ended (later columns) h = cc
is-ended reader.ended h = refl

abbrev reader_in : ReaderMemory → Reader
reader_in m = reader_of m.words m.cells m.state m.line

phase-in : (m : ReaderMemory) → (reader_in m).phase ≡ phase_in m.state
unfolding reader_of
phase-in m = refl

-- with nothing left, or nothing more to read
all_done : (m : ReaderMemory) (input : List ℕ) → (is_ended (phase_in m.state) ≡ false → input ≡ []) → all_read (reader_in m) input ≡ end_input (reader_in m)
all_done m input h = go (is_ended (phase_in m.state)) refl
  where
    go : (t : Bool) → is_ended (phase_in m.state) ≡ t → all_read (reader_in m) input ≡ end_input (reader_in m)
    go true e =
        ap (λ (x : Read). read (end_input x.reader).reader (x.rows ++ (end_input x.reader).rows))
        (ended-reads (reader_in m) (phase-in m ∙ is-ended (phase_in m.state) e) input)
    go false e = ap (all_read (reader_in m)) (h e) ∙ all_none (reader_in m)

-- Calls --------------------------------------------------------------------------------------

untouched : (m n : ReaderMemory) {lent rows : List ℕ} {p : Progress} → Untouched m.words m.cells m.state m.line lent n.words n.cells n.state n.line rows p → reader_in n ≡ reader_in m
untouched m n u = rw (u.words_are, u.cells_are, u.state-is, u.line-is)

follows : {m n : ReaderMemory} {input rows : List ℕ} → Feeds m input rows n → read (reader_in n) rows ≡ all_read (reader_in m) input
follows (fed m n l input piece rest p lent rows more s f a fs) =
    let front : take p.taken input ≡ take p.taken piece = ap (take p.taken) s ∙ take-append-le p.taken piece rest (advances {m = m} {n = n} f a).within in
    let parts : take p.taken piece ++ drop p.taken input ≡ input = ap (λ (x : List ℕ). x ++ drop p.taken input) (sym front) ∙ take-append-drop p.taken input in
    ap (all_after (read (reader_in n) (take p.written rows))) (follows fs)
    ∙ ap (λ (one : Read). all_after one (all_read one.reader (drop p.taken input))) (f.does a).reads
    ∙ sym (all_append (reader_in m) (take p.taken piece) (drop p.taken input))
    ∙ ap (all_read (reader_in m)) parts
follows (ended m input p lent words cells state rows h e a) = (e.does a).reads ∙ sym (all_done m input h)
follows (feed-refused m n l input piece p lent rows more f a fs) = follows fs ∙ ap (λ (r : Reader). all_read r input) (untouched m n (f.refused a))
follows (end_refused m l input p lent words cells state rows more e a fs) = follows fs ∙ ap (λ (r : Reader). all_read r input) (untouched m (after_end m words cells state) (e.refused a))

end-closes : (r : Reader) → is_ended (end_input r).reader.phase ≡ true
unfolding end_input
end-closes r = refl

pub text-fed : (m n : ReaderMemory) (input rows : List ℕ) → Begun m → Feeds m input rows n → TextFed input rows n
text-fed m n input rows b fs =
    let z : reader_in m ≡ start = (b.started.begins refl m.line b.lined).0 in
    let e : read (reader_in n) rows ≡ all_read start input = follows fs ∙ ap (λ (r : Reader). all_read r input) z in
    record {
      rows_are = ap (λ (x : Read). x.rows) e ∙ whole input;
      kept = text-kept input;
      closed = sym (ap is_ended (phase-in n)) ∙ ap (λ (x : Read). is_ended x.reader.phase) e ∙ end-closes _;
    }

-- Room ---------------------------------------------------------------------------------------

-- a byte ends at most one line
end-counts : (r : Reader) (p : Phase) → (end_line r p).reader.count ≤ suc r.count
unfolding end_line
end-counts r first = go (columns_in r.line)
  where
    go : (o : Option (List ℕ)) → (named r.count r.world o).reader.count ≤ suc r.count
    go None = omega arith
    go (Some columns) = omega arith
end-counts r (later columns) = omega arith
end-counts r reader.ended = omega arith

byte-counts : (r : Reader) (b : ℕ) → (read_byte r b).reader.count ≤ suc r.count
byte-counts r b = go (is_ended r.phase) (eqb b line_feed) refl refl
  where
    go : (t u : Bool) → is_ended r.phase ≡ t → eqb b line_feed ≡ u → (read_byte r b).reader.count ≤ suc r.count
    go true u e f = rw e (omega arith)
    go false true e f = rw (e, f) (end-counts r r.phase)
    go false false e f = rw (e, f) (omega arith)

bytes_count : (r : Reader) (bytes : List ℕ) → (read_bytes r bytes).reader.count ≤ r.count + length bytes
unfolding read_bytes
bytes_count r [] = omega arith
bytes_count r (b ∷ bytes) = omega (arith, bytes_count (read_byte r b).reader bytes, byte-counts r b)

abbrev count_in : ReaderMemory → ℕ
count_in m = get_or m.state 1 0

count-in : (m : ReaderMemory) → (reader_in m).count ≡ count_in m
unfolding reader_of
count-in m = refl

abbrev is_reader_in : ReaderMemory → Bool
is_reader_in m = is_reader m.words m.cells m.state m.line

-- a reader, with lines left for each byte
record Lasts (m : ReaderMemory) (input : List ℕ) : Type 0 where
  is : is_reader_in m ≡ true
  counts : count_in m + length input < maximum_count

same-lasts : (m n : ReaderMemory) (input : List ℕ) {lent rows : List ℕ} {p : Progress} → Untouched m.words m.cells m.state m.line lent n.words n.cells n.state n.line rows p
    → Lasts m input → Lasts n input
same-lasts m n input u h = record { is = rw (u.words_are, u.cells_are, u.state-is, u.line-is) h.is; counts = rw u.state-is h.counts }

short : (m : ReaderMemory) (lent : List ℕ) (a : Bool) → is_reader_in m ≡ true → a ≡ is_accepted m.words m.cells m.state m.line lent → a ≡ false → length lent < row_room
short m lent a h e f = leb-false row_room (length lent) (rw h at (sym e ∙ f))

fed-lasts : (m n : ReaderMemory) (input piece rest : List ℕ) {p : Progress} {lent rows : List ℕ} → input ≡ piece ++ rest → FeedCalled m piece lent p n rows → p.accepted ≡ true
    → Lasts m input → Lasts n (drop p.taken input)
fed-lasts m n input piece rest {p} s f a h =
    let within : p.taken ≤ length piece = (advances {m = m} {n = n} f a).within in
    let size : length input ≡ length piece + length rest = ap length s ∙ length-append piece rest in
    let left = length-drop p.taken input in
    let grows : (reader_in n).count ≤ (reader_in m).count + length (take p.taken piece) =
    rw (ap (λ (x : Read). x.reader.count) (f.does a).reads) (bytes_count (reader_in m) (take p.taken piece)) in
    let counts : count_in n + length (drop p.taken input) < maximum_count = omega (arith, h.counts, count-in n, count-in m, length-take-le p.taken piece within) in
    record { is = (f.does a).still (lt-ltb (count_in n) maximum_count (omega arith)); counts = counts }

refused-for-room : {m n : ReaderMemory} {input rows : List ℕ} → Lasts m input → (fs : Feeds m input rows n) → RefusedForRoom fs
unfolding RefusedForRoom
refused-for-room h (fed m n l input piece rest p lent rows more s f a fs) = refused-for-room (fed-lasts m n input piece rest s f a h) fs
refused-for-room h (ended m input p lent words cells state rows d e a) = tt
refused-for-room h (feed-refused m n l input piece p lent rows more f a fs) =
    (short m lent p.accepted h.is f.accepts a, refused-for-room (same-lasts m n input (f.refused a) h) fs)
refused-for-room h (end_refused m l input p lent words cells state rows more e a fs) =
    (short m lent p.accepted h.is e.accepts a, refused-for-room (same-lasts m (after_end m words cells state) input (e.refused a) h) fs)

-- no call that is lent room is refused, of an input whose bytes a word can count
pub room-suffices : (m n : ReaderMemory) (input rows : List ℕ) → Begun m → length input < maximum_count → (fs : Feeds m input rows n) → RefusedForRoom fs
room-suffices m n input rows b l fs =
    let begun = b.started.begins refl m.line b.lined in
    let None : count_in m ≡ 0 = sym (count-in m) ∙ ap (λ (r : Reader). r.count) begun.0 in
    refused-for-room (record { is = begun.1; counts = omega (arith, None) }) fs
