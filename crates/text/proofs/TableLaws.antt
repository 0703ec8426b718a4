-- Laws of the cells that hold a table of strings. Assumes nothing.
use Rattle.std.specs.Prelude.{None, Some}
use Prim.Native.Nat.{ℕ, zero, suc, ◌+◌, ◌-◌, ◌*◌, ◌<◌, ◌≤◌, min}
use native.Mathlib.Omega.{arith}
use native.Mathlib.Numerals.{add-one}
use native.Mathlib.Nat.{min-le_right, min-eq_left}
use mathlib.Core.Path.{◌≡◌, refl, sym, ap, ◌∙◌}
use mathlib.Core.Bool.{Bool, true, false, ◌&&◌}
use mathlib.Core.List.{List, [], ◌∷◌, ◌++◌}
use lib.Dec.{eqb, leb}
use lib.ListN.{length, get_or, set, take, drop, length-set, get_or-eq_default}
use lib.Seq.{sets, drop-cons, get_or-set_same, get_or-set_other}
use borrow.Rule.Slice.PartMut.{put_mid}
use borrow.Author.Tests.{eqb-true, leb-true, eq-eqb, le-leb}
use Rattle.text.specs.Strings.{text_of, same_text, number_of, maximum_strings}
use Rattle.text.specs.Table.{tabulate, table_size, row_at, length_at, text_at, strings_of, is_table, overwrite, added_to}
use Rattle.text.specs.Answers.{read_table}
use Rattle.text.proofs.CopyLaws.{copied}
use Rattle.text.proofs.TextLaws.{number-at, number-none}

pub and_left : (a b : Bool) → a && b ≡ true → a ≡ true
and_left true b e = refl
and_left false b e = e

pub and_right : (a b : Bool) → a && b ≡ true → b ≡ true
and_right true b e = e
and_right false b e = let z : ◌≡◌ {A = ℕ} 0 1 = cc in absurd (omega arith)

pub table-size : (cells : List ℕ) → is_table cells ≡ true → length cells ≡ table_size
unfolding is_table
table-size cells e = eqb-true _ _ (and_left (eqb (length cells) table_size) (leb (get_or cells 0 0) maximum_strings) e)

pub table-count : (cells : List ℕ) → is_table cells ≡ true → get_or cells 0 0 ≤ maximum_strings
unfolding is_table
table-count cells e = leb-true _ _ (and_right (eqb (length cells) table_size) (leb (get_or cells 0 0) maximum_strings) e)

pub is-table : (cells : List ℕ) → length cells ≡ table_size → get_or cells 0 0 ≤ maximum_strings → is_table cells ≡ true
unfolding is_table
is-table cells h l = rw (eq-eqb (length cells) table_size h, le-leb (get_or cells 0 0) maximum_strings l)

pub untrue : false ≡ true → ⊥
untrue e = let z : ◌≡◌ {A = ℕ} 0 1 = cc in omega arith

-- a count of 0

pub no-strings : (cells : List ℕ) → length cells ≡ table_size → strings_of (set cells 0 0) ≡ []
unfolding strings_of tabulate
no-strings cells h = rw (get_or-set_same cells 0 0 0 (omega arith))

pub empty-table : (cells : List ℕ) → length cells ≡ table_size → is_table (set cells 0 0) ≡ true
empty-table cells h =
    is-table (set cells 0 0) (length-set cells 0 0 ∙ h) (omega (arith, get_or-set_same cells 0 0 0 (omega arith)))

-- tabulated lists

pub length-tabulate : {A : Type 0} (f : ℕ → A) (i n : ℕ) → length (tabulate f i n) ≡ n
unfolding tabulate
length-tabulate f i zero = refl
length-tabulate f i (suc n) = ap suc (length-tabulate f (suc i) n)

pub get_d_tabulate : {A : Type 0} (f : ℕ → A) (i n k : ℕ) (d : A) → k < n → get_or (tabulate f i n) k d ≡ f (i + k)
unfolding tabulate
get_d_tabulate f i zero k d h = absurd (omega arith)
get_d_tabulate f i (suc n) zero d h = let e : i + 0 ≡ i = omega arith in ap f (sym e)
get_d_tabulate f i (suc n) (suc k) d h =
    let e : suc i + k ≡ i + suc k = omega arith in get_d_tabulate f (suc i) n k d (omega arith) ∙ ap f e

pub tabulate-ext : {A : Type 0} (f g : ℕ → A) (i n : ℕ) → ((k : ℕ) → i ≤ k → k < i + n → f k ≡ g k) → tabulate f i n ≡ tabulate g i n
unfolding tabulate
tabulate-ext f g i zero h = refl
tabulate-ext f g i (suc n) h =
    let e : f i ≡ g i = h i (omega arith) (omega arith) in
    let r : tabulate f (suc i) n ≡ tabulate g (suc i) n = tabulate-ext f g (suc i) n (λ k a b. h k (omega arith) (omega arith)) in
    cc

pub tabulate-last : {A : Type 0} (f : ℕ → A) (i n : ℕ) → tabulate f i (suc n) ≡ tabulate f i n ++ (f (i + n) ∷ [])
unfolding tabulate
tabulate-last f i zero = let e : i ≡ i + 0 = omega arith in ap (λ (k : ℕ). f k ∷ []) e
tabulate-last f i (suc n) =
    let e : suc i + n ≡ i + suc n = omega arith in
    let r : f (suc i) ∷ tabulate f (suc (suc i)) n ≡ tabulate f (suc i) n ++ (f (i + suc n) ∷ []) =
    tabulate-last f (suc i) n ∙ ap (λ (k : ℕ). tabulate f (suc i) n ++ (f k ∷ [])) e in
    ap (λ (l : List _). f i ∷ l) r

-- n cells from i on
pub part : (cells : List ℕ) (i n : ℕ) → i + n ≤ length cells → take n (drop i cells) ≡ tabulate (λ k. get_or cells k 0) i n
unfolding tabulate
part cells i zero h = refl
part cells i (suc n) h =
    let l : i < length cells = omega arith in
    let r : take n (drop (suc i) cells) ≡ tabulate (λ k. get_or cells k 0) (suc i) n = part cells (suc i) n (omega arith) in
    rw (drop-cons cells i 0) (ap (λ (x : List ℕ). get_or cells i 0 ∷ x) r)

-- a string's length and its code units

pub length_most : (cells : List ℕ) (n : ℕ) → length_at cells n ≤ 32
unfolding length_at
length_most cells n = min-le_right _ _

pub length-is : (cells : List ℕ) (n : ℕ) → get_or cells (row_at n) 0 ≤ 32 → length_at cells n ≡ get_or cells (row_at n) 0
unfolding length_at
length-is cells n h = min-eq_left h

pub text-part : (cells : List ℕ) (n i m : ℕ) → length cells ≡ table_size → n < 256 → i ≡ 2 + 33 * n → m ≡ length_at cells n
    → take (i + m - i) (drop i cells) ≡ text_at cells n
unfolding text_at
text-part cells n i m h l p q =
    let a : i ≡ suc (row_at n) = omega arith in
    let b : i + m - i ≡ length_at cells n = omega arith in
    rw (b, a) (part cells (suc (row_at n)) (length_at cells n) (omega (arith, length_most cells n)))

string-at : (cells : List ℕ) (k : ℕ) → k < get_or cells 0 0 → get_or (strings_of cells) k [] ≡ text_at cells k
unfolding strings_of
string-at cells k h = get_d_tabulate (text_at cells) 0 (get_or cells 0 0) k [] h ∙ ap (text_at cells) (omega arith)

pub text-read : (cells : List ℕ) (n : ℕ) → is_table cells ≡ true → n < get_or cells 0 0 → text_of (read_table cells) n ≡ text_at cells n
unfolding read_table
text-read cells n e h = rw e (string-at cells n h)

pub text-none : (cells : List ℕ) (n : ℕ) → is_table cells ≡ true → get_or cells 0 0 ≤ n → text_of (read_table cells) n ≡ []
unfolding read_table strings_of
text-none cells n e h =
    let l : length (tabulate (text_at cells) 0 (get_or cells 0 0)) ≤ n = omega (arith, length-tabulate (text_at cells) 0 (get_or cells 0 0)) in
    rw e (get_or-eq_default (tabulate (text_at cells) 0 (get_or cells 0 0)) [] l)

pub text-malformed : (cells : List ℕ) (n : ℕ) → is_table cells ≡ false → text_of (read_table cells) n ≡ []
unfolding read_table
text-malformed cells n e = rw e

pub length-strings : (cells : List ℕ) → length (strings_of cells) ≡ get_or cells 0 0
unfolding strings_of
length-strings cells = length-tabulate (text_at cells) 0 (get_or cells 0 0)

-- what the search answers

module _ (cells units : List ℕ) (e : is_table cells ≡ true) where
  pub found-at : (n : ℕ) → n < get_or cells 0 0 → same_text (text_at cells n) units ≡ true → ((k : ℕ) → k < n → same_text (text_at cells k) units ≡ false)
      → Some n ≡ (number_of (read_table cells) units)
  unfolding read_table
  found-at n h s before =
      rw (e, number-at (strings_of cells) units n (omega (arith, length-strings cells)) (rw (string-at cells n h) s) (λ k l. rw (string-at cells k (omega arith)) (before k l)))

  pub found-nothing : ((k : ℕ) → k < get_or cells 0 0 → same_text (text_at cells k) units ≡ false) → None ≡ (number_of (read_table cells) units)
  unfolding read_table
  found-nothing absent =
      rw (e, number-none (strings_of cells) units (λ k l. let h : k < get_or cells 0 0 = omega (arith, length-strings cells) in rw (string-at cells k h) (absent k h)))

pub find-malformed : (cells u : List ℕ) → is_table cells ≡ false → None ≡ (number_of (read_table cells) u)
unfolding read_table number_of
find-malformed cells u e = rw e

-- cells overwritten

pub length-overwrite : (cells : List ℕ) (i : ℕ) (units : List ℕ) → length (overwrite cells i units) ≡ length cells
unfolding overwrite
length-overwrite cells i [] = refl
length-overwrite cells i (u ∷ us) = length-overwrite (set cells i u) (suc i) us ∙ length-set cells i u

pub overwrite-low : (cells : List ℕ) (i : ℕ) (units : List ℕ) (k : ℕ) → k < i → get_or (overwrite cells i units) k 0 ≡ get_or cells k 0
unfolding overwrite
overwrite-low cells i [] k h = refl
overwrite-low cells i (u ∷ us) k h =
    overwrite-low (set cells i u) (suc i) us k (omega arith) ∙ get_or-set_other cells i k u 0 (λ q. omega arith)

pub overwrite-part : (cells : List ℕ) (i : ℕ) (units : List ℕ) → i + length units ≤ length cells
    → tabulate (λ k. get_or (overwrite cells i units) k 0) i (length units) ≡ units
unfolding tabulate overwrite
overwrite-part cells i [] h = refl
overwrite-part cells i (u ∷ us) h =
    let l : i < length cells = omega arith in
    let m : suc i + length us ≤ length (set cells i u) = omega (arith, length-set cells i u) in
    let e : get_or (overwrite (set cells i u) (suc i) us) i 0 ≡ u =
    overwrite-low (set cells i u) (suc i) us i (omega arith) ∙ get_or-set_same cells i u 0 l in
    let r = overwrite-part (set cells i u) (suc i) us m in
    rw e (ap (λ (x : List ℕ). u ∷ x) r)

pub overwrite-sets : (cells : List ℕ) (i : ℕ) (units : List ℕ) → overwrite cells i units ≡ sets cells i units
unfolding overwrite
overwrite-sets cells i [] = refl
overwrite-sets cells i (u ∷ us) = overwrite-sets (set cells i u) (suc i) us

-- a string added: its length, its code units, then the count

abbrev pub sized : List ℕ → List ℕ → ℕ → List ℕ
sized cells units n = set cells (row_at n) (length units)

abbrev pub written : List ℕ → List ℕ → ℕ → List ℕ
written cells units n = overwrite (sized cells units n) (suc (row_at n)) units

pub length-written : (cells units : List ℕ) (n : ℕ) → length (written cells units n) ≡ length cells
length-written cells units n =
    length-overwrite (sized cells units n) (suc (row_at n)) units ∙ length-set cells (row_at n) (length units)

-- what `add` leaves, where `now` was copied into the row behind the length
pub added-by : (cells units now : List ℕ) (n k : ℕ) → length cells ≡ table_size → length units ≤ 32 → n < 256 → now ≡ units → k ≡ length units
    → set (put_mid (row_at n + 1) k (sized cells units n) now) 0 (n + 1) ≡ added_to cells units n
unfolding added_to
added-by cells units now n k s f r e h =
    let z : length (sized cells units n) ≡ length cells = length-set cells (row_at n) (length units) in
    rw (copied (sized cells units n) (row_at n + 1) k units now e h (omega arith), add-one (row_at n), add-one n, overwrite-sets)

pub length-added : (cells units : List ℕ) (n : ℕ) → length (added_to cells units n) ≡ length cells
unfolding added_to
length-added cells units n = length-set (written cells units n) 0 (suc n) ∙ length-written cells units n

added-count : (cells units : List ℕ) (n : ℕ) → 0 < length cells → get_or (added_to cells units n) 0 0 ≡ suc n
unfolding added_to
added-count cells units n h =
    get_or-set_same (written cells units n) 0 (suc n) 0 (omega (arith, length-written cells units n))

added-other : (cells units : List ℕ) (n k : ℕ) → 0 < k → get_or (added_to cells units n) k 0 ≡ get_or (written cells units n) k 0
unfolding added_to
added-other cells units n k h = get_or-set_other (written cells units n) 0 k (suc n) 0 (λ q. omega arith)

added-length : (cells units : List ℕ) (n : ℕ) → row_at n < length cells → get_or (added_to cells units n) (row_at n) 0 ≡ length units
added-length cells units n h =
    added-other cells units n (row_at n) (omega arith)
    ∙ overwrite-low (sized cells units n) (suc (row_at n)) units (row_at n) (omega arith)
    ∙ get_or-set_same cells (row_at n) (length units) 0 h

-- all cells before the row but the count stay
added-low : (cells units : List ℕ) (n k : ℕ) → 0 < k → k < row_at n → get_or (added_to cells units n) k 0 ≡ get_or cells k 0
added-low cells units n k h l =
    added-other cells units n k h
    ∙ overwrite-low (sized cells units n) (suc (row_at n)) units k (omega arith)
    ∙ get_or-set_other cells (row_at n) k (length units) 0 (λ q. omega arith)

module _ (cells units : List ℕ) (n : ℕ) (size : length cells ≡ table_size) (room : n < 256) (fits : length units ≤ 32) where
  text-added : text_at (added_to cells units n) n ≡ units
  unfolding text_at
  text-added =
      let a : get_or (added_to cells units n) (row_at n) 0 ≡ length units = added-length cells units n (omega arith) in
      let b : length_at (added_to cells units n) n ≡ length units = length-is (added_to cells units n) n (omega arith) ∙ a in
      rw b
      (tabulate-ext (λ k. get_or (added_to cells units n) k 0) (λ k. get_or (written cells units n) k 0) (suc (row_at n)) (length units)
      (λ k g l. added-other cells units n k (omega arith))
      ∙ overwrite-part (sized cells units n) (suc (row_at n)) units (omega (arith, length-set cells (row_at n) (length units))))

  text-kept : (k : ℕ) → k < n → text_at (added_to cells units n) k ≡ text_at cells k
  unfolding text_at length_at
  text-kept k h =
      let a : get_or (added_to cells units n) (row_at k) 0 ≡ get_or cells (row_at k) 0 = added-low cells units n (row_at k) (omega arith) (omega arith) in
      rw a
      (tabulate-ext (λ i. get_or (added_to cells units n) i 0) (λ i. get_or cells i 0) (suc (row_at k)) (min (get_or cells (row_at k) 0) 32)
      (λ i g l. added-low cells units n i (omega arith) (omega (arith, min-le_right (get_or cells (row_at k) 0) 32))))

  -- the string stands after those before it
  pub strings-added : n ≡ get_or cells 0 0 → strings_of (added_to cells units n) ≡ strings_of cells ++ (units ∷ [])
  unfolding strings_of
  strings-added e =
      let a : get_or (added_to cells units n) 0 0 ≡ suc n = added-count cells units n (omega arith) in
      let z : 0 + n ≡ n = omega arith in
      let b : tabulate (text_at (added_to cells units n)) 0 n ≡ tabulate (text_at cells) 0 n =
      tabulate-ext (text_at (added_to cells units n)) (text_at cells) 0 n (λ k g l. text-kept k (omega arith)) in
      rw (a, ← e) (tabulate-last (text_at (added_to cells units n)) 0 n ∙ rw (z, text-added, b))

  pub table-added : is_table (added_to cells units n) ≡ true
  table-added =
      is-table (added_to cells units n) (length-added cells units n ∙ size) (omega (arith, added-count cells units n (omega arith)))
