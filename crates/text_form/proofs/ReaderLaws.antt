-- Reading in pieces: a piece after another, and a piece up to the next line feed. Assumes nothing.
use Rattle.std.specs.Prelude.{Option, None, Some}
use Prim.Native.Nat.{ℕ, suc, ◌+◌, ◌≤◌, ◌<◌}
use native.Mathlib.Omega.{arith}
use mathlib.Core.Path.{◌≡◌, refl, sym, ap, ◌∙◌}
use mathlib.Core.Bool.{Bool, true, false}
use mathlib.Core.List.{List, [], ◌∷◌, ◌++◌, append_assoc, append-nil}
use lib.Dec.{eqb, ltb}
use lib.ListN.{length, take, drop, length-append, take-append-drop}
use borrow.Author.Tests.{ltb-true, ltb-false, le-leb, lt-leb}
use Rattle.record.specs.Characters.{line_feed}
use Rattle.text_form.specs.Cells.{until}
use Rattle.text_form.specs.Lines.{maximum_line}
use Rattle.text_form.specs.Reader.{Phase, first, later, ended, Reader, reader, Read, read, add_byte, columns_in, named, keep_byte, is_ended, read_byte, read_bytes, end_line, added, kept, Fits}

-- what more bytes give after what was read
abbrev pub afterwards : Read → List ℕ → Read
afterwards one bytes = read (read_bytes one.reader bytes).reader (one.rows ++ (read_bytes one.reader bytes).rows)

pub read-append : (r : Reader) (a b : List ℕ) → read_bytes r (a ++ b) ≡ afterwards (read_bytes r a) b
unfolding read_bytes
read-append r [] b = refl
read-append r (x ∷ a) b =
    let one = read_byte r x in
    ap (λ (more : Read). read more.reader (one.rows ++ more.rows)) (read-append one.reader a b)
    ∙ ap (read _) (sym (append_assoc one.rows _ _))

-- Readers that ended ------------------------------------------------------------------------

pub ended-reads : (r : Reader) → r.phase ≡ ended → (bytes : List ℕ) → read_bytes r bytes ≡ read r []
unfolding read_bytes
ended-reads r h [] = refl
ended-reads r h (b ∷ bytes) = let e : read_byte r b ≡ read r [] = rw h in ap (λ (one : Read). afterwards one bytes) e ∙ ended-reads r h bytes

-- Pieces of a line ------------------------------------------------------------------------------

pub added-nil : (o : Option (List ℕ)) → Fits o → added o [] ≡ o
added-nil None h = refl
added-nil (Some line) h = let e : length line + 0 ≤ maximum_line = omega arith in rw (le-leb (length line + 0) maximum_line e, append-nil line)

pub added-cons : (o : Option (List ℕ)) (b : ℕ) (piece : List ℕ) → added o (b ∷ piece) ≡ added (add_byte o b) piece
added-cons None b piece = refl
added-cons (Some line) b piece = go (ltb (length line) maximum_line) refl
  where
    go : (t : Bool) → ltb (length line) maximum_line ≡ t → added (Some line) (b ∷ piece) ≡ added (add_byte (Some line) b) piece
    go true e =
        let l : length (line ++ (b ∷ [])) + length piece ≡ length line + suc (length piece) = simp length-append (omega arith) in
        rw e (rw (l, append_assoc line (b ∷ []) piece))
    go false e = let h : maximum_line < length line + suc (length piece) = omega (arith, ltb-false (length line) maximum_line e) in rw (e, lt-leb (length line + suc (length piece)) maximum_line h)

pub fits_byte : (o : Option (List ℕ)) (b : ℕ) → Fits (add_byte o b)
fits_byte None b = tt
fits_byte (Some line) b = go (ltb (length line) maximum_line) refl
  where
    go : (t : Bool) → ltb (length line) maximum_line ≡ t → Fits (add_byte (Some line) b)
    go true e = rw e (simp length-append (omega (arith, ltb-true (length line) maximum_line e)))
    go false e = rw e tt

pub added-byte : (o : Option (List ℕ)) (b : ℕ) → added o (b ∷ []) ≡ add_byte o b
added-byte o b = added-cons o b [] ∙ added-nil (add_byte o b) (fits_byte o b)

-- a piece after another
pub added-append : (o : Option (List ℕ)) → Fits o → (a b : List ℕ) → added o (a ++ b) ≡ added (added o a) b
added-append o fits [] b = ap (λ (x : Option (List ℕ)). added x b) (sym (added-nil o fits))
added-append o fits (x ∷ a) b =
    added-cons o x (a ++ b) ∙ added-append (add_byte o x) (fits_byte o x) a b ∙ ap (λ (y : Option (List ℕ)). added y b) (sym (added-cons o x a))

-- no reader keeps more than the longest line
pub fits-ends : (r : Reader) → Fits r.line → (p : Phase) → Fits (end_line r p).reader.line
unfolding end_line
fits-ends r fits first = go (columns_in r.line)
  where
    go : (o : Option (List ℕ)) → Fits (named r.count r.world o).reader.line
    go None = omega arith
    go (Some columns) = omega arith
fits-ends r fits (later columns) = omega arith
fits-ends r fits ended = fits

pub fits-reads : (r : Reader) → Fits r.line → (bytes : List ℕ) → Fits (read_bytes r bytes).reader.line
unfolding read_bytes
fits-reads r fits [] = fits
fits-reads r fits (b ∷ bytes) = fits-reads (read_byte r b).reader (go (is_ended r.phase) (eqb b line_feed) refl refl) bytes
  where
    go : (t u : Bool) → is_ended r.phase ≡ t → eqb b line_feed ≡ u → Fits (read_byte r b).reader.line
    go true u e f = rw e fits
    go false true e f = rw (e, f) (fits-ends r fits r.phase)
    go false false e f = rw (e, f) (fits_byte r.line b)

pub kept-nil : (r : Reader) → Fits r.line → kept r [] ≡ r
kept-nil r h = ap (λ (o : Option (List ℕ)). reader r.phase r.count o r.world) (added-nil r.line h)

pub kept_cons : (r : Reader) (b : ℕ) (piece : List ℕ) → kept r (b ∷ piece) ≡ kept (keep_byte r b) piece
kept_cons r b piece = ap (λ (o : Option (List ℕ)). reader r.phase r.count o r.world) (added-cons r.line b piece)

module _ (bytes : List ℕ) (b : ℕ) where
  until-here : eqb b line_feed ≡ true → until line_feed (b ∷ bytes) ≡ 0
  unfolding until
  until-here e = rw e

  until-later : eqb b line_feed ≡ false → until line_feed (b ∷ bytes) ≡ suc (until line_feed bytes)
  unfolding until
  until-later e = rw e

module _ (r : Reader) (reads : is_ended r.phase ≡ false) (b : ℕ) where
  pub byte-kept : eqb b line_feed ≡ false → read_byte r b ≡ read (keep_byte r b) []
  byte-kept e = rw (reads, e)

  pub byte-ends : eqb b line_feed ≡ true → read_byte r b ≡ end_line r r.phase
  byte-ends e = rw (reads, e)

-- a piece without a line feed
pub piece-kept : (r : Reader) → is_ended r.phase ≡ false → Fits r.line → (bytes : List ℕ) → until line_feed bytes ≡ length bytes → read_bytes r bytes ≡ read (kept r bytes) []
unfolding read_bytes
piece-kept r reads fits [] h = ap (λ (x : Reader). read x []) (sym (kept-nil r fits))
piece-kept r reads fits (b ∷ bytes) h = go (eqb b line_feed) refl (λ l. piece-kept (keep_byte r b) reads (fits_byte r.line b) bytes l)
  where
    go : (t : Bool) → eqb b line_feed ≡ t → (until line_feed bytes ≡ length bytes → read_bytes (keep_byte r b) bytes ≡ read (kept (keep_byte r b) bytes) [])
        → afterwards (read_byte r b) bytes ≡ read (kept r (b ∷ bytes)) []
    go true e rest = absurd (omega (arith, until-here bytes b e))
    go false e rest =
        let l : until line_feed bytes ≡ length bytes = omega (arith, until-later bytes b e) in
        ap (λ (one : Read). afterwards one bytes) (byte-kept r reads b e) ∙ rest l ∙ ap (λ (x : Reader). read x []) (sym (kept_cons r b bytes))

-- a piece that ends in its only line feed
pub piece-ends : (r : Reader) → is_ended r.phase ≡ false → Fits r.line → (bytes : List ℕ) → until line_feed bytes < length bytes
    → read_bytes r (take (suc (until line_feed bytes)) bytes) ≡ end_line (kept r (take (until line_feed bytes) bytes)) r.phase
unfolding read_bytes
piece-ends r reads fits [] h = absurd (omega arith)
piece-ends r reads fits (b ∷ bytes) h = go (eqb b line_feed) refl (λ l. piece-ends (keep_byte r b) reads (fits_byte r.line b) bytes l)
  where
    go : (t : Bool) → eqb b line_feed ≡ t
        → (until line_feed bytes < length bytes → read_bytes (keep_byte r b) (take (suc (until line_feed bytes)) bytes) ≡ end_line (kept (keep_byte r b) (take (until line_feed bytes) bytes)) r.phase)
        → afterwards (read_byte r b) (take (until line_feed (b ∷ bytes)) bytes) ≡ end_line (kept r (take (until line_feed (b ∷ bytes)) (b ∷ bytes))) r.phase
    go true e rest =
        rw (until-here bytes b e)
        (ap (read _) (append-nil (read_byte r b).rows) ∙ byte-ends r reads b e ∙ ap (λ (x : Reader). end_line x r.phase) (sym (kept-nil r fits)))
    go false e rest =
        let l : until line_feed bytes < length bytes = omega (arith, until-later bytes b e) in
        rw (until-later bytes b e)
        (ap (λ (one : Read). afterwards one (take (suc (until line_feed bytes)) bytes)) (byte-kept r reads b e)
        ∙ rest l
        ∙ ap (λ (x : Reader). end_line x r.phase) (sym (kept_cons r b (take (until line_feed bytes) bytes))))

-- all bytes, by their first line
pub line_read : (r : Reader) → is_ended r.phase ≡ false → Fits r.line → (bytes : List ℕ) → until line_feed bytes < length bytes
    → read_bytes r bytes ≡ afterwards (end_line (kept r (take (until line_feed bytes) bytes)) r.phase) (drop (suc (until line_feed bytes)) bytes)
line_read r reads fits bytes h =
    let k = suc (until line_feed bytes) in
    ap (read_bytes r) (sym (take-append-drop k bytes))
    ∙ read-append r (take k bytes) (drop k bytes)
    ∙ ap (λ (one : Read). afterwards one (drop k bytes)) (piece-ends r reads fits bytes h)
