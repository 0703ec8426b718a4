-- Laws of entering a string into the cells of a table, for each way that it ends. Assumes nothing.
use Rattle.std.specs.Prelude.{Option, None, Some, Result, Ok, Err}
use Prim.Native.Nat.{ℕ, ◌<◌, ◌≤◌}
use native.Mathlib.Omega.{arith}
use mathlib.Core.Path.{◌≡◌, refl, sym, ap, ◌∙◌}
use mathlib.Core.Bool.{true, false}
use mathlib.Core.List.{List, [], ◌∷◌, ◌++◌}
use lib.Dec.{ltb}
use lib.ListN.{length, get_or}
use borrow.Author.Tests.{le-leb, lt-leb, lt-ltb, le-ltb}
use Rattle.text.specs.declared.EntryError.{EntryError}
use Rattle.text.specs.declared.EntryError.TheVariants.{Malformed, TooLong, Full}
use Rattle.text.specs.Strings.{refused, entered, number_of, enter}
use Rattle.text.specs.Table.{table_size, strings_of, is_table, added_to}
use Rattle.text.specs.Answers.{read_table, entry_of, enter_cells, cells_after}
use Rattle.text.proofs.TextLaws.{found_some, found_none, number-below}
use Rattle.text.proofs.TableLaws.{table-size, length-strings, strings-added, table-added}

-- what `enter` ensures of the cells after and of its answer
abbrev pub Done : List ℕ → List ℕ → List ℕ → Result ℕ EntryError → Type 0
Done cells units after answer =
    (entry_of answer (strings_of after) ≡ enter_cells cells units)
    × ((after ≡ cells_after cells units (enter_cells cells units)) × (is_table after ≡ is_table cells))

number_read : (cells units : List ℕ) (o : Option ℕ) → is_table cells ≡ true → number_of (read_table cells) units ≡ o → number_of (strings_of cells) units ≡ o
unfolding read_table
number_read cells units o e q = rw e at q

pub enter-malformed : (cells units : List ℕ) → is_table cells ≡ false → Done cells units cells (Err Malformed)
unfolding enter_cells
enter-malformed cells units e =
    let a : enter_cells cells units ≡ refused 1 = rw e in
    (sym a, (rw a, refl))

module _ (cells units : List ℕ) (e : is_table cells ≡ true) where
  pub enter-long : 32 < length units → Done cells units cells (Err TooLong)
  unfolding enter_cells enter
  enter-long h =
      let a : enter_cells cells units ≡ refused 3 = rw (e, lt-leb (length units) 32 h) in
      (sym a, (rw a, refl))

  pub enter-known : (n : ℕ) → length units ≤ 32 → Some n ≡ (number_of (read_table cells) units) → Done cells units cells (Ok n)
  unfolding enter_cells enter
  enter-known n h q =
      let p : number_of (strings_of cells) units ≡ Some n = number_read cells units (Some n) e (found_some n _ q) in
      let a : enter_cells cells units ≡ entered n (strings_of cells) = rw (e, le-leb (length units) 32 h, p) in
      let b : n < get_or cells 0 0 = omega (arith, number-below (strings_of cells) units n p, length-strings cells) in
      (sym a, (rw (a, lt-ltb n (get_or cells 0 0) b), refl))

  module _ (n : ℕ) (h : length units ≤ 32) (q : None ≡ (number_of (read_table cells) units)) (m : n ≡ get_or cells 0 0) where
    pub enter-full : 256 ≤ n → Done cells units cells (Err Full)
    unfolding enter_cells enter
    enter-full l =
        let p : number_of (strings_of cells) units ≡ None = number_read cells units None e (found_none _ q) in
        let f : ltb (length (strings_of cells)) 256 ≡ false = le-ltb (length (strings_of cells)) 256 (omega (arith, length-strings cells)) in
        let a : enter_cells cells units ≡ refused 7 = rw (e, le-leb (length units) 32 h, p, f) in
        (sym a, (rw a, refl))

    pub enter-new : n < 256 → (after : List ℕ) → after ≡ added_to cells units n → Done cells units after (Ok n)
    unfolding enter_cells enter
    enter-new l after d =
        let s : length cells ≡ table_size = table-size cells e in
        let p : number_of (strings_of cells) units ≡ None = number_read cells units None e (found_none _ q) in
        let t : length (strings_of cells) ≡ n = length-strings cells ∙ sym m in
        let f : ltb (length (strings_of cells)) 256 ≡ true = lt-ltb (length (strings_of cells)) 256 (omega arith) in
        let g : ltb n (get_or cells 0 0) ≡ false = le-ltb n (get_or cells 0 0) (omega arith) in
        let w : strings_of after ≡ strings_of cells ++ (units ∷ []) = ap strings_of d ∙ strings-added cells units n s l h m in
        let a : enter_cells cells units ≡ entered n (strings_of cells ++ (units ∷ [])) =
        rw (e, le-leb (length units) 32 h, p, f, t) in
        (ap (entered n) w ∙ sym a, (d ∙ rw (a, g), ap is_table d ∙ table-added cells units n s l h ∙ sym e))
