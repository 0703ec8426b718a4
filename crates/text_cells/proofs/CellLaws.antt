-- Where a line's cells stand. Assumes nothing.
use Prim.Native.Nat.{ℕ, suc, ◌+◌, ◌-◌, ◌<◌, ◌≤◌}
use native.Mathlib.Omega.{arith}
use native.Mathlib.Numerals.{add-one}
use mathlib.Core.Path.{◌≡◌, refl, sym, ap, ◌∙◌}
use mathlib.Core.Bool.{Bool, true, false}
use mathlib.Core.List.{List, [], ◌∷◌, ◌++◌, append-nil, append_assoc}
use lib.Dec.{eqb}
use lib.ListN.{length, get_or, take, drop, set, replicate, length-set, length-drop, drop_of_length-le}
use lib.Seq.{drop-cons, drop-drop, get_or-drop, get_or-set_same, get_or-set_other}
use Rattle.std.proofs.Common.{Option, Some, None, MatchOption, cond, ltb, not}
use Rattle.std.specs.Bool.{then_some}
use Rattle.std.proofs.lemmas.List.Recursion.{is_position_or_len}
use Rattle.std.proofs.lemmas.List.Sums.{prefix_len-le-length}
use Rattle.std.proofs.lemmas.Slice.{between_to_end}
use Rattle.std.specs.List.{position, position_or_len}
use Rattle.std.specs.Option.{unwrap_or}
use borrow.Author.Count.{below_more}
use borrow.Author.Tests.{ltb-false, eqb-true, eqb-false}
use Rattle.record.specs.Characters.{space}
use Rattle.text_form.specs.Cells.{until, cells_of, pieces}
use Rattle.text_cells.specs.Answers.{cell_at, Located}

-- how many bytes stand before a separator, as `position` finds it

until_is : (s : ℕ) (xs : List ℕ) → until s xs ≡ position_or_len (λ b. eqb b s) xs
unfolding until
until_is s = is_position_or_len (until s) (λ b. eqb b s) refl (λ b xs. ap (λ (n : ℕ). cond (eqb b s) 0 n) (omega arith))

or_length : (n l : ℕ) → n ≤ l → (t : Bool) → ltb n l ≡ t → unwrap_or (cond t (Some n) None) l ≡ n
or_length n l h true e = refl
or_length n l h false e = omega (arith, ltb-false n l e)

pub until-position : (bytes : List ℕ) (from s : ℕ) {r : Option ℕ} {n : ℕ} → from ≤ length bytes
    → r ≡ position (λ b. eqb b s) (take (length bytes - from) (drop from bytes)) → n ≡ unwrap_or r (length (take (length bytes - from) (drop from bytes)))
    → (from + n ≡ from + until s (drop from bytes)) × (from + n ≤ length bytes)
until-position bytes from s h e n =
    let l = prefix_len-le-length (λ b. not (eqb b s)) (drop from bytes) in
    rw (n, e, between_to_end bytes from (length bytes) (omega arith), or_length _ _ l _ refl, until_is) (refl, omega (arith, length-drop from bytes))

-- the pieces behind a separator, which is the first byte
unfoldable pub behind : ℕ → List ℕ → List (List ℕ)
behind s [] = []
behind s (b ∷ bytes) = pieces s [] bytes

first_by : (s b : ℕ) (front bytes : List ℕ)
    → pieces s (front ++ (b ∷ [])) bytes ≡ ((front ++ (b ∷ [])) ++ take (until s bytes) bytes) ∷ behind s (drop (until s bytes) bytes)
    → (t : Bool) → eqb b s ≡ t
    → pieces s front (b ∷ bytes) ≡ (front ++ take (until s (b ∷ bytes)) (b ∷ bytes)) ∷ behind s (drop (until s (b ∷ bytes)) (b ∷ bytes))
unfolding pieces until behind
first_by s b front bytes h true e = rw (e, append-nil front)
first_by s b front bytes h false e = rw e (rw append_assoc at h)

pieces-first : (s : ℕ) (front bytes : List ℕ)
    → pieces s front bytes ≡ (front ++ take (until s bytes) bytes) ∷ behind s (drop (until s bytes) bytes)
unfolding pieces until behind
pieces-first s front [] = rw append-nil
pieces-first s front (b ∷ bytes) = first_by s b front bytes (pieces-first s (front ++ (b ∷ [])) bytes) (eqb b s) refl

-- the cells of a line from this place on
abbrev pub rest : List ℕ → ℕ → List (List ℕ)
rest line at = behind space (drop at (space ∷ line))

rest-none : (line : List ℕ) (at : ℕ) → length line < at → rest line at ≡ []
unfolding behind
rest-none line at h = rw (drop_of_length-le (space ∷ line) h)

rest-step : (line : List ℕ) (at r : ℕ) → at ≤ length line → r ≡ at + until space (drop at line)
    → rest line at ≡ cell_at line at (suc r) ∷ rest line (suc r)
unfolding behind
rest-step line at r h e =
    let l : at < length (space ∷ line) = omega arith in
    let k : suc r - suc at ≡ until space (drop at line) = omega arith in
    rw (drop-cons (space ∷ line) at 0, pieces-first space [] (drop at line), drop-drop, k, e)

-- cell j stands from here to one before the next
pub record Stands (line : List ℕ) (from next j : ℕ) : Type 0 where
  pub ordered : from < next
  pub inside : next ≤ suc (length line)
  pub cell : cell_at line from next ≡ get_or (cells_of line) j []

-- i cells are located; the next one would start at `at`
pub record Passed (line starts : List ℕ) (at i : ℕ) : Type 0 where
  pub eight : length starts ≡ 8
  pub here : get_or starts i 0 ≡ at
  pub within : at ≤ suc (length line)
  pub known : (j : ℕ) → j < i → Stands line (get_or starts j 0) (get_or starts (suc j) 0) j
  pub reached : i ≤ length (cells_of line)
  pub later : drop i (cells_of line) ≡ rest line at

pub passed_none : (line : List ℕ) → Passed line (replicate 8 0) 0 0
unfolding behind
passed_none line =
    record { eight = refl; here = refl; within = omega arith; known = λ j l. absurd (omega arith); reached = omega arith; later = refl }

module _ (line starts : List ℕ) (at i : ℕ) (p : Passed line starts at i) where
  few : length line < at → length (cells_of line) ≡ i
  few l =
      let z : length (cells_of line) - i ≡ 0 = sym (length-drop i (cells_of line)) ∙ ap length (p.later ∙ rest-none line at l) in
      omega (arith, p.reached)

  module _ (l : at ≤ length line) (r : ℕ) (e : r ≡ at + until space (drop at line)) where
    next-cell : drop i (cells_of line) ≡ cell_at line at (suc r) ∷ rest line (suc r)
    next-cell = p.later ∙ rest-step line at r l e

    more : suc i ≤ length (cells_of line)
    more =
        let n : length (cells_of line) - i ≡ suc (length (rest line (suc r))) = sym (length-drop i (cells_of line)) ∙ ap length next-cell in
        omega arith

    cell-here : get_or (cells_of line) i [] ≡ cell_at line at (suc r)
    cell-here =
        let z : i + 0 ≡ i = omega arith in
        sym (rw z at (get_or-drop i (cells_of line) 0 [])) ∙ ap (λ (cells : List (List ℕ)). get_or cells 0 []) next-cell

    pub passed-one : i < 7 → r ≤ length line → Passed line (set starts (i + 1) (r + 1)) (r + 1) (i + 1)
    passed-one h m =
        let x : suc i < length starts = omega (arith, p.eight) in
        let a : get_or (set starts (suc i) (suc r)) i 0 ≡ at = get_or-set_other starts (suc i) i (suc r) 0 (λ q. omega arith) ∙ p.here in
        let b : get_or (set starts (suc i) (suc r)) (suc i) 0 ≡ suc r = get_or-set_same starts (suc i) (suc r) 0 x in
        rw (add-one i, add-one r)
        (record {
          eight = length-set starts (suc i) (suc r) ∙ p.eight;
          here = b;
          within = omega arith;
          known =
              λ j g. below_more
              (λ k. Stands line (get_or (set starts (suc i) (suc r)) k 0) (get_or (set starts (suc i) (suc r)) (suc k) 0) k)
              i
              (λ k f. rw (get_or-set_other starts (suc i) k (suc r) 0 (λ q. omega arith), get_or-set_other starts (suc i) (suc k) (suc r) 0 (λ q. omega arith)) (p.known k f))
              (rw (a, b) (record { ordered = omega arith; inside = omega arith; cell = sym cell-here }))
              j
              (omega arith);
          reached = more;
          later = sym (rw (add-one i) at (drop-drop 1 i (cells_of line))) ∙ ap (drop 1) next-cell;
        })

  pub passed-few : i < 7 → length line < at → length (cells_of line) ≡ 7 → ⊥
  passed-few h l q = omega (arith, few l)

  -- seven cells, where the one behind them would start behind the line
  pub passed-seven : i ≡ 7 → (t : Bool) → eqb at (length line + 1) ≡ t
      → MatchOption (then_some t starts) (length (cells_of line) ≡ 7 → ⊥) (λ s. (length (cells_of line) ≡ 7) × Located line s)
  passed-seven h true e =
      let q : at ≡ length line + 1 = eqb-true _ _ e in (
        few (omega arith) ∙ h,
        record {
          eight = p.eight;
          ordered = λ j l. (p.known j (omega arith)).ordered;
          inside = λ j l. (p.known j (omega arith)).inside;
          cells = λ j l. (p.known j (omega arith)).cell;
        },
      )
  passed-seven h false e =
      let l : at ≤ length line = omega (arith, p.within, eqb-false at (length line + 1) e) in
      λ q. omega (arith, more l _ refl)
