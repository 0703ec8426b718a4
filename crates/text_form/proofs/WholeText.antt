-- Reading a whole input and its end gives the rows of the text. Assumes nothing.
use Rattle.std.specs.Prelude.{Option, None, Some}
use Prim.Native.Nat.{ℕ, suc, ◌<◌}
use native.Mathlib.Omega.{arith}
use mathlib.Core.Path.{◌≡◌, refl, sym, ap, ◌∙◌}
use mathlib.Core.Bool.{Bool, true, false, cond}
use mathlib.Core.List.{List, [], ◌∷◌, ◌++◌, append_assoc, append-nil}
use lib.Dec.{eqb, leb}
use lib.ListN.{length, length-append}
use borrow.Author.Tests.{leb-false, lt-leb}
use Rattle.store.specs.Store.{World, empty}
use Rattle.record.specs.Characters.{line_feed}
use Rattle.steps.specs.Response.{refusal}
use Rattle.steps.specs.Run.{Call, run}
use Rattle.text_form.specs.Cells.{pieces}
use Rattle.text_form.specs.Lines.{maximum_line, columns_of, call_in}
use Rattle.text_form.specs.Rows.{heading, row}
use Rattle.text_form.specs.Text.{without_empty_last, lines_under, rows_under, rows_of, rows, run_text}
use Rattle.text_form.specs.Reader.{first, later, ended, Reader, reader, Read, read, start, add_byte, columns_in, line_call, named, line_effect, performed, has_begun, end_line, read_byte, read_bytes, end_input}
use Rattle.text_form.proofs.ReaderLaws.{ended-reads, byte-kept, byte-ends}
use Rattle.text_form.proofs.RowLaws.{rows_from, rows-turn}

-- The line that has begun -------------------------------------------------------------------

-- what a reader keeps of what it read of a line
abbrev capped : List ℕ → Option (List ℕ)
capped front = cond (leb (length front) maximum_line) (Some front) None

module _ (front : List ℕ) where
  capped-byte : (b : ℕ) → add_byte (capped front) b ≡ capped (front ++ (b ∷ []))
  capped-byte b = go (leb (length front) maximum_line) refl
    where
      l : length (front ++ (b ∷ [])) ≡ suc (length front)
      l = simp length-append (omega arith)

      go : (t : Bool) → leb (length front) maximum_line ≡ t → add_byte (cond t (Some front) None) b ≡ capped (front ++ (b ∷ []))
      go true e = ap (λ (n : ℕ). cond (leb n maximum_line) (Some (front ++ (b ∷ []))) None) (sym l)
      go false e = let h : maximum_line < length (front ++ (b ∷ [])) = omega (arith, l, leb-false (length front) maximum_line e) in rw (lt-leb (length (front ++ (b ∷ []))) maximum_line h)

  capped-columns : columns_in (capped front) ≡ columns_of front
  unfolding columns_of
  capped-columns = go (leb (length front) maximum_line) refl
    where
      go : (t : Bool) → leb (length front) maximum_line ≡ t → columns_in (cond t (Some front) None) ≡ columns_of front
      go true e = refl
      go false e = rw e

  capped-call : (columns : List ℕ) → line_call columns (capped front) ≡ call_in columns front
  unfolding call_in
  capped-call columns = go (leb (length front) maximum_line) refl
    where
      go : (t : Bool) → leb (length front) maximum_line ≡ t → line_call columns (cond t (Some front) None) ≡ call_in columns front
      go true e = refl
      go false e = rw e

begun : (b : ℕ) (line : List ℕ) → has_begun (capped (b ∷ line)) ≡ true
begun b line = go (leb (length (b ∷ line)) maximum_line)
  where
    go : (t : Bool) → has_begun (cond t (Some (b ∷ line)) None) ≡ true
    go true = refl
    go false = refl

-- The lines -----------------------------------------------------------------------------------

abbrev lines_from : List ℕ → List ℕ → List (List ℕ)
lines_from front bytes = without_empty_last (pieces line_feed front bytes)

last_cons : (line front bytes : List ℕ) → without_empty_last (line ∷ pieces line_feed front bytes) ≡ line ∷ lines_from front bytes
unfolding without_empty_last pieces
last_cons line front [] = refl
last_cons line front (b ∷ bytes) = go (eqb b line_feed) (last_cons line (front ++ (b ∷ [])) bytes)
  where
    next : Bool → List (List ℕ)
    next t = cond t (front ∷ pieces line_feed [] bytes) (pieces line_feed (front ++ (b ∷ [])) bytes)

    go : (t : Bool) → without_empty_last (line ∷ next false) ≡ line ∷ without_empty_last (next false) → without_empty_last (line ∷ next t) ≡ line ∷ without_empty_last (next t)
    go true rest = refl
    go false rest = rest

module _ (front bytes : List ℕ) (b : ℕ) where
  line-ends : eqb b line_feed ≡ true → lines_from front (b ∷ bytes) ≡ front ∷ lines_from [] bytes
  unfolding pieces
  line-ends e = rw e (last_cons front [] bytes)

  line-goes-on : eqb b line_feed ≡ false → lines_from front (b ∷ bytes) ≡ lines_from (front ++ (b ∷ [])) bytes
  unfolding pieces
  line-goes-on e = rw e

-- Reading -------------------------------------------------------------------------------------

-- all rows of an input and its end
abbrev rows_read : Reader → List ℕ → List ℕ
rows_read r input = (read_bytes r input).rows ++ (end_input (read_bytes r input).reader).rows

abbrev rows_after : Read → List ℕ → List ℕ
rows_after one input = one.rows ++ rows_read one.reader input

read-cons : (r : Reader) (b : ℕ) (input : List ℕ) → rows_read r (b ∷ input) ≡ rows_after (read_byte r b) input
unfolding read_bytes
read-cons r b input = append_assoc (read_byte r b).rows _ _

ended-rows : (r : Reader) → r.phase ≡ ended → (input : List ℕ) → rows_read r input ≡ []
unfolding end_input
ended-rows r h input = rw (ended-reads r h input) (rw h)

module _ (columns : List ℕ) where
  abbrev at : ℕ → World → List ℕ → Reader
  at n ω front = reader (later columns) n (capped front) ω

  abbrev as_calls : List (List ℕ) → List (Option Call)
  as_calls lines = lines_under columns lines

  later-end : (n : ℕ) (ω : World) (front : List ℕ) → rows_read (at n ω front) [] ≡ rows_from (suc n) ω (as_calls (lines_from front []))
  unfolding read_bytes end_input end_line without_empty_last pieces rows
  later-end n ω [] = refl
  later-end n ω (b ∷ line) =
      ap (λ (t : Bool). (cond t (end_line (at n ω (b ∷ line)) (later columns)) (read (at n ω (b ∷ line)) [])).rows) (begun b line)
      ∙ ap (λ (o : Option Call). row (suc n) (line_effect ω o).response) (capped-call (b ∷ line) columns)
      ∙ sym (append-nil _)
      ∙ sym (rows-turn (suc n) ω (call_in columns (b ∷ line)) [])

  later_rows : (input : List ℕ) (n : ℕ) (ω : World) (front : List ℕ) → rows_read (at n ω front) input ≡ rows_from (suc n) ω (as_calls (lines_from front input))
  unfolding end_line
  later_rows [] n ω front = later-end n ω front
  later_rows (b ∷ input) n ω front =
      read-cons (at n ω front) b input
      ∙ go (eqb b line_feed) refl (λ m υ. later_rows input m υ []) (later_rows input n ω (front ++ (b ∷ [])))
    where
      go : (t : Bool) → eqb b line_feed ≡ t
          → ((m : ℕ) (υ : World) → rows_read (at m υ []) input ≡ rows_from (suc m) υ (as_calls (lines_from [] input)))
          → rows_read (at n ω (front ++ (b ∷ []))) input ≡ rows_from (suc n) ω (as_calls (lines_from (front ++ (b ∷ [])) input))
          → rows_after (read_byte (at n ω front) b) input ≡ rows_from (suc n) ω (as_calls (lines_from front (b ∷ input)))
      go true e next same =
          let o = call_in columns front in
          ap (λ (one : Read). rows_after one input) (byte-ends (at n ω front) refl b e)
          ∙ ap (λ (c : Option Call). rows_after (performed columns (suc n) (line_effect ω c)) input) (capped-call front columns)
          ∙ ap (λ (more : List ℕ). row (suc n) (line_effect ω o).response ++ more) (next (suc n) (line_effect ω o).world)
          ∙ sym (rows-turn (suc n) ω o (as_calls (lines_from [] input)))
          ∙ ap (λ (lines : List (List ℕ)). rows_from (suc n) ω (as_calls lines)) (sym (line-ends front input b e))
      go false e next same =
          ap (λ (one : Read). rows_after one input) (byte-kept (at n ω front) refl b e)
          ∙ ap (λ (o : Option (List ℕ)). rows_read (reader (later columns) n o ω) input) (capped-byte front b)
          ∙ same
          ∙ ap (λ (lines : List (List ℕ)). rows_from (suc n) ω (as_calls lines)) (sym (line-goes-on front input b e))

-- The names -----------------------------------------------------------------------------------

abbrev before : List ℕ → Reader
before front = reader first 0 (capped front) empty

first-end : (front : List ℕ) → rows_read (before front) [] ≡ heading ++ rows_of (lines_from front [])
unfolding read_bytes end_input end_line without_empty_last pieces columns_of rows
first-end [] = refl
first-end (b ∷ line) = ap (λ (o : Option (List ℕ)). (named 0 empty o).rows) (capped-columns (b ∷ line)) ∙ go (columns_of (b ∷ line))
  where
    go : (o : Option (List ℕ)) → (named 0 empty o).rows ≡ heading ++ rows_under o []
    go None = refl
    go (Some columns) = refl

first_rows : (input front : List ℕ) → rows_read (before front) input ≡ heading ++ rows_of (lines_from front input)
unfolding end_line run
first_rows [] front = first-end front
first_rows (b ∷ input) front = read-cons (before front) b input ∙ go (eqb b line_feed) refl (first_rows input (front ++ (b ∷ [])))
  where
    under : (o : Option (List ℕ)) → rows_after (named 0 empty o) input ≡ heading ++ rows_under o (lines_from [] input)
    under None = ap (λ (more : List ℕ). heading ++ (row 0 (refusal 12) ++ more)) (ended-rows (reader ended 0 (Some []) empty) refl input) ∙ ap (λ (more : List ℕ). heading ++ more) (append-nil _)
    under (Some columns) = ap (λ (more : List ℕ). heading ++ more) (later_rows columns input 0 empty [])

    go : (t : Bool) → eqb b line_feed ≡ t → rows_read (before (front ++ (b ∷ []))) input ≡ heading ++ rows_of (lines_from (front ++ (b ∷ [])) input)
        → rows_after (read_byte (before front) b) input ≡ heading ++ rows_of (lines_from front (b ∷ input))
    go true e same =
        ap (λ (one : Read). rows_after one input) (byte-ends (before front) refl b e)
        ∙ ap (λ (o : Option (List ℕ)). rows_after (named 0 empty o) input) (capped-columns front)
        ∙ under (columns_of front)
        ∙ ap (λ (lines : List (List ℕ)). heading ++ rows_of lines) (sym (line-ends front input b e))
    go false e same =
        ap (λ (one : Read). rows_after one input) (byte-kept (before front) refl b e)
        ∙ ap (λ (o : Option (List ℕ)). rows_read (reader first 0 o empty) input) (capped-byte front b)
        ∙ same
        ∙ ap (λ (lines : List (List ℕ)). heading ++ rows_of lines) (sym (line-goes-on front input b e))

-- the rows on the way and those at the end are all rows of the text
pub whole : (input : List ℕ) → let r = read_bytes start input in r.rows ++ (end_input r.reader).rows ≡ run_text input
unfolding run_text
whole input = first_rows input []
