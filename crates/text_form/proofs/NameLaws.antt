-- Seven names in seven cells: each stands there once. Assumes nothing.
use Rattle.std.specs.Prelude.{Option, None, Some}
use Prim.Native.Nat.{ℕ, zero, suc, ◌<◌, ◌≤◌}
use native.Mathlib.Nat.{le_of_suc-le-suc, not-suc-le-zero}
use native.Mathlib.Omega.{arith}
use mathlib.Core.Path.{◌≡◌, refl, sym, ap, ◌∙◌}
use mathlib.Core.Bool.{Bool, true, false, ◌&&◌, cond, false≢true}
use mathlib.Core.List.{List, [], ◌∷◌, map}
use lib.Dec.{eqb, leb}
use lib.ListN.{length, get_or}
use borrow.Author.Tests.{eqb-true, leb-true}
use Rattle.value.proofs.Bools.{and-true}
use Rattle.text.specs.Strings.{Strings, same_text, next, number_of}
use Rattle.text.proofs.TextLaws.{number-below}
use Rattle.text_form.specs.Cells.{cells_of}
use Rattle.text_form.specs.Lines.{maximum_line, names, with_column, all_of, columns_of}
use Rattle.text_form.specs.Texts.{NamesOnce}

same_text_lem : (a b : List ℕ) → same_text a b ≡ true → a ≡ b
unfolding same_text
same_text_lem [] [] h = refl
same_text_lem [] (d ∷ ds) h = absurd (false≢true h)
same_text_lem (c ∷ cs) [] h = absurd (false≢true h)
same_text_lem (c ∷ cs) (d ∷ ds) h =
    let (e, f) = and-true (eqb c d) (same_text cs ds) h in
    rw (eqb-true c d e, same_text_lem cs ds f)

-- the text that has this number
number-of : (texts : Strings) (units : List ℕ) (n : ℕ) → number_of texts units ≡ Some n → get_or texts n [] ≡ units
unfolding number_of
number-of [] units n h = absurd (false≢true cc)
number-of (text ∷ texts) units n h = by-text (same_text text units) refl h (λ m. number-of texts units m)
  where
    by_next : (o : Option ℕ) → number_of texts units ≡ o → next o ≡ Some n → ((m : ℕ) → number_of texts units ≡ Some m → get_or texts m [] ≡ units) → get_or (text ∷ texts) n [] ≡ units
    by_next None e g rest = absurd (false≢true cc)
    by_next (Some m) e g rest = let q : suc m ≡ n = cc in rw (← q) (rest m e)

    by-text : (t : Bool) → same_text text units ≡ t → cond t (Some zero) (next (number_of texts units)) ≡ Some n → ((m : ℕ) → number_of texts units ≡ Some m → get_or texts m [] ≡ units) → get_or (text ∷ texts) n [] ≡ units
    by-text true e g rest = let q : zero ≡ n = cc in rw (← q) (same_text_lem text units e)
    by-text false e g rest = by_next (number_of texts units) refl g rest

-- each name is found under its own number
name-number : (i : ℕ) → i < 7 → number_of names (get_or names i []) ≡ Some i
unfolding number_of same_text
name-number zero h = refl
name-number (suc zero) h = refl
name-number (suc (suc zero)) h = refl
name-number (suc (suc (suc zero))) h = refl
name-number (suc (suc (suc (suc zero)))) h = refl
name-number (suc (suc (suc (suc (suc zero))))) h = refl
name-number (suc (suc (suc (suc (suc (suc zero)))))) h = refl
name-number (suc (suc (suc (suc (suc (suc (suc i))))))) h = absurd (omega arith)

-- all of them, each in its place
record All (found : List (Option ℕ)) (columns : List ℕ) : Type 0 where
  count : length columns ≡ length found
  each : (i : ℕ) → i < length found → get_or found i None ≡ Some (get_or columns i 0)

all_cons : (c : ℕ) (found : List (Option ℕ)) (columns : List ℕ) → All found columns → All (Some c ∷ found) (c ∷ columns)
all_cons c found columns h = record { count = ap suc h.count; each = at }
  where
    at : (i : ℕ) → i < suc (length found) → get_or (Some c ∷ found) i None ≡ Some (get_or (c ∷ columns) i 0)
    at zero l = refl
    at (suc i) l = h.each i (le_of_suc-le-suc l)

all-of : (found : List (Option ℕ)) (columns : List ℕ) → all_of found ≡ Some columns → All found columns
unfolding all_of
all-of [] columns h = let e : [] ≡ columns = cc in record { count = rw (← e); each = λ i l. absurd (not-suc-le-zero l) }
all-of (o ∷ found) columns h = by_first o (all_of found) refl h (λ rest. all-of found rest)
  where
    by_first : (o : Option ℕ) (rest : Option (List ℕ)) → all_of found ≡ rest → with_column o rest ≡ Some columns → ((cs : List ℕ) → all_of found ≡ Some cs → All found cs) → All (o ∷ found) columns
    by_first None rest e g ih = absurd (false≢true cc)
    by_first (Some c) None e g ih = absurd (false≢true cc)
    by_first (Some c) (Some cs) e g ih = let q : c ∷ cs ≡ columns = cc in rw (← q) (all_cons c found cs (ih cs e))

mapped : (f : List ℕ → Option ℕ) (texts : List (List ℕ)) (i : ℕ) → i < length texts → get_or (map f texts) i None ≡ f (get_or texts i [])
mapped f [] i l = absurd (not-suc-le-zero l)
mapped f (text ∷ texts) zero l = refl
mapped f (text ∷ texts) (suc i) l = mapped f texts i (le_of_suc-le-suc l)

module _ (line columns : List ℕ) (h : columns_of line ≡ Some columns) where
  record Found : Type 0 where
    short : length line ≤ maximum_line
    cells : length (cells_of line) ≡ 7
    all : all_of (map (number_of (cells_of line)) names) ≡ Some columns

  found : Found
  unfolding columns_of
  found = go (leb (length line) maximum_line && eqb (length (cells_of line)) 7) refl h
    where
      go : (t : Bool) → leb (length line) maximum_line && eqb (length (cells_of line)) 7 ≡ t → cond t (all_of (map (number_of (cells_of line)) names)) None ≡ Some columns → Found
      go true e g = let (l, c) = and-true _ _ e in record { short = leb-true _ _ l; cells = eqb-true _ _ c; all = g }
      go false e g = absurd (false≢true cc)

  column-of : (i : ℕ) → i < 7 → number_of (cells_of line) (get_or names i []) ≡ Some (get_or columns i 0)
  column-of i l = sym (mapped (number_of (cells_of line)) names i l) ∙ (all-of _ _ found.all).each i l

  named : (i : ℕ) → i < 7 → get_or (cells_of line) (get_or columns i 0) [] ≡ get_or names i []
  named i l = number-of _ _ _ (column-of i l)

  different : (i j : ℕ) → i < 7 → j < 7 → get_or columns i 0 ≡ get_or columns j 0 → i ≡ j
  different i j l m e =
      let q : get_or names i [] ≡ get_or names j [] = sym (named i l) ∙ ap (λ (c : ℕ). get_or (cells_of line) c []) e ∙ named j m in
      let s : Some i ≡ Some j = sym (name-number i l) ∙ ap (number_of names) q ∙ name-number j m in
      cc

  pub names-once : NamesOnce line columns
  names-once = record {
    cells = found.cells;
    seven = (all-of _ _ found.all).count;
    below = λ i l. let q = number-below _ _ _ (column-of i l) in rw found.cells at q;
    named = named;
    different = different;
  }
