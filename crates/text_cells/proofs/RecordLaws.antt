-- The parts of a record one by one. Assumes nothing.
use Rattle.std.specs.Prelude.{Option, None, Some}
use Prim.Native.Nat.{ℕ, suc, ◌+◌, ◌<◌, ◌≤◌}
use native.Mathlib.Numerals.{add-one}
use native.Mathlib.Omega.{arith}
use mathlib.Core.Path.{◌≡◌, ◌∙◌}
use mathlib.Core.List.{List, [], ◌∷◌, ◌++◌, append_assoc}
use lib.ListN.{length, get_or, take, drop, length-append, drop_of_length-le}
use lib.Seq.{drop-cons, take_at, length-take-le}
use Rattle.text_form.specs.Cells.{part_in}
use Rattle.text_form.specs.Lines.{cell_under, joined, record_in}
use Rattle.text_cells.proofs.JoinLaws.{joined-nothing, joined_end, joined-twice, all-written}

abbrev pub part_sizes : List ℕ
part_sizes = 1 ∷ 1 ∷ 9 ∷ 9 ∷ 9 ∷ 29 ∷ []

unfoldable pub total : List ℕ → ℕ
total [] = 0
total (size ∷ sizes) = size + total sizes

-- the parts from a name on
unfoldable pub parts_from : List ℕ → List (List ℕ) → ℕ → List ℕ → Option (List ℕ)
parts_from columns cells name [] = Some []
parts_from columns cells name (size ∷ sizes) = joined (part_in size (cell_under columns cells name)) (parts_from columns cells (suc name) sizes)

pub all-parts : (columns : List ℕ) (cells : List (List ℕ)) → record_in columns cells ≡ joined (Some []) (parts_from columns cells 0 part_sizes)
unfolding record_in parts_from
all-parts columns cells = rw (joined_end (part_in 29 (cell_under columns cells 5))) (joined-nothing _)

pub size_fits : (name at : ℕ) → name < 6 → at + total (drop name part_sizes) ≡ 58 → at + get_or part_sizes name 0 + total (drop (name + 1) part_sizes) ≡ 58
unfolding total
size_fits name at h e = let k = rw (drop-cons part_sizes name 0 h) at e in rw add-one (omega arith)

taken-between : (bytes part rest : List ℕ) (at k : ℕ) → at ≤ length bytes → length part ≡ k → take (at + k) (take at bytes ++ (part ++ rest)) ≡ take at bytes ++ part
taken-between bytes part rest at k h e = rw (← append_assoc) (take_at (take at bytes ++ part) rest (at + k) (length-append (take at bytes) part ∙ rw (length-take-le at bytes h, e)))

module _ (columns : List ℕ) (cells : List (List ℕ)) (name : ℕ) (inside : name < 6) (k : ℕ) (size : k ≡ get_or part_sizes name 0) (cell : List ℕ) (under : cell ≡ cell_under columns cells name) where
  pub no_part : (front : List ℕ) → None ≡ part_in k cell → None ≡ joined (Some front) (parts_from columns cells name (drop name part_sizes))
  unfolding parts_from
  no_part front e = rw (drop-cons part_sizes name 0 inside, ← size, ← under, ← e)

  pub next-part : (bytes part rest : List ℕ) (at : ℕ) → at ≤ length bytes → length part ≡ k → Some part ≡ part_in k cell
      → joined (Some (take at bytes)) (parts_from columns cells name (drop name part_sizes))
      ≡ joined (Some (take (at + get_or part_sizes name 0) (take at bytes ++ (part ++ rest)))) (parts_from columns cells (name + 1) (drop (name + 1) part_sizes))
  unfolding parts_from
  next-part bytes part rest at h l e =
      rw (drop-cons part_sizes name 0 inside, ← size, ← under, ← e, add-one, taken-between bytes part rest at k h l) (joined-twice (take at bytes) part (parts_from columns cells (suc name) (drop (suc name) part_sizes)))

pub parts-end : (columns : List ℕ) (cells : List (List ℕ)) (name at : ℕ) (bytes : List ℕ) → 6 ≤ name → at + total (drop name part_sizes) ≡ 58 → length bytes ≡ 58
    → joined (Some (take at bytes)) (parts_from columns cells name (drop name part_sizes)) ≡ Some bytes
unfolding total parts_from
parts-end columns cells name at bytes h e l =
    let d = drop_of_length-le part_sizes {i = name} h in
    let k = rw d at e in
    rw d (all-written bytes at (omega arith))
