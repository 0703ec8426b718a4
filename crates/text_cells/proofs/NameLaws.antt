-- The columns of the names in a line's cells. Assumes nothing.
use Prim.Native.Nat.{ℕ, suc, ◌+◌, ◌<◌, ◌≤◌}
use native.Mathlib.Omega.{arith}
use native.Mathlib.Numerals.{add-one}
use mathlib.Core.Path.{◌≡◌, refl, ap, ◌∙◌}
use mathlib.Core.Bool.{true, false}
use mathlib.Core.List.{List, [], ◌∷◌, map, append-nil}
use lib.ListN.{length, get_or, take, drop, set, drop_of_length-le}
use lib.Seq.{drop-cons, take_all, take-suc-set}
use borrow.Author.Tests.{le-leb, eq-eqb, ne_eqb}
use Rattle.std.specs.Prelude.{MatchOption, Some, None, Option as Answer, Option}
use Rattle.text.specs.Strings.{same_text, number_of}
use Rattle.text.proofs.TextLaws.{number-at, number-none}
use Rattle.text_form.specs.Cells.{cells_of}
use Rattle.text_form.specs.Lines.{maximum_line, names, with_column, all_of, columns_of, joined}
use Rattle.text_cells.proofs.JoinLaws.{joined-nothing, joined-twice}

-- what a search of seven cells for a name answers
pub column-first : (cells : List (List ℕ)) (u : List ℕ) (r : Answer ℕ) → length cells ≡ 7
    → MatchOption r ((k : ℕ) → 0 ≤ k → k < 7 → same_text (get_or cells k []) u ≡ false)
    (λ i. (0 ≤ i) × (i < 7) × (same_text (get_or cells i []) u ≡ true) × ((k : ℕ) → 0 ≤ k → k < i → same_text (get_or cells k []) u ≡ false))
    → MatchOption r (number_of cells u ≡ None) (λ i. (number_of cells u ≡ Some i) × (i < 7))
column-first cells u None n f = number-none cells u (λ k h. f k (omega arith) (omega arith))
column-first cells u (Some i) n f = (number-at cells u i (omega arith) f.2 (λ k h. f.3 k (omega arith) h), f.1)

one-column : (column : ℕ) (o : Option (List ℕ)) → with_column (Some column) o ≡ joined (Some (column ∷ [])) o
one-column column None = refl
one-column column (Some columns) = refl

-- the columns of the first i names, then those of the others
module _ (number : List ℕ → Option ℕ) (texts : List (List ℕ)) where
  abbrev pub columns_from : List ℕ → ℕ → Option (List ℕ)
  columns_from columns i = joined (Some (take i columns)) (all_of (map number (drop i texts)))

  pub columns-end : (columns : List ℕ) (i : ℕ) → length texts ≤ i → length columns ≤ i → columns_from columns i ≡ Some columns
  unfolding all_of
  columns-end columns i h l = rw (drop_of_length-le texts h, append-nil, take_all i columns l)

  module _ (columns : List ℕ) (i : ℕ) (h : i < length texts) {text : List ℕ} (t : text ≡ get_or texts i []) where
    pub columns-none : number text ≡ None → columns_from columns i ≡ None
    unfolding all_of
    columns-none e = rw (drop-cons texts i [], ← t, e)

    pub columns-step : (column : ℕ) → i < length columns → number text ≡ Some column → columns_from columns i ≡ columns_from (set columns i column) (i + 1)
    unfolding all_of
    columns-step column l e =
        rw (add-one i, drop-cons texts i [], ← t, e, take-suc-set columns i column) (ap (joined (Some (take i columns))) (one-column column (all_of (map number (drop (suc i) texts)))) ∙ joined-twice (take i columns) (column ∷ []) (all_of (map number (drop (suc i) texts))))

pub columns-seven : (line : List ℕ) → length line ≤ maximum_line → length (cells_of line) ≡ 7 → columns_of line ≡ all_of (map (number_of (cells_of line)) names)
unfolding columns_of
columns-seven line l e = rw (le-leb _ _ l, eq-eqb _ _ e)

pub columns-other : (line : List ℕ) → length line ≤ maximum_line → (length (cells_of line) ≡ 7 → ⊥) → None ≡ columns_of line
unfolding columns_of
columns-other line l e = rw (le-leb _ _ l, ne_eqb _ _ e)
