use Rattle.std.specs.Prelude.{Option, Some}
use native.Mathlib.Omega.{arith}
use Prim.Native.Nat.{ℕ, ◌/◌}
use mathlib.Core.List.{List, ◌++◌}
use lib.ListN.{length, take}
use lib.Seq.{length-take-le, take_at}
use mathlib.Core.Path.{◌≡◌, ◌∙◌, sym}
use Rattle.text_form.specs.Cells.{some_bytes_in}
use Rattle.text_cells.proofs.HexadecimalLaws.{odd-none}
use Rattle.text_cells.proofs.hexadecimal.put_some.Goals as goal
use Rattle.text_cells.proofs.hexadecimal.put_some.Goals.{then-is_empty-via-then-is_empty, then-is_empty-via-else-is_empty+then-cell-eq1}

front : (written rest : List ℕ) (n : ℕ) {o : Option (List ℕ)} → length written ≡ n → Some written ≡ o → Some (take n (written ++ rest)) ≡ o
front written rest n e h = rw (take_at written rest n e) h

pub returns-then-is_empty : goal.returns-then-is_empty
unfolding some_bytes_in
returns-then-is_empty c = elim c.then-is_empty.branch [
  | then-is_empty-via-then-is_empty w ↦ (rw (sym c.is_empty.ensures ∙ w.if-is_empty.true), tt)
  | then-is_empty-via-else-is_empty+then-cell-eq1 w ↦
      (rw (sym c.is_empty.ensures ∙ w.if-is_empty.false, odd-none c.args.cell.now (length c.args.cell.now / 2) (omega arith)), tt)
]

pub returns-then-put_bytes : goal.returns-then-put_bytes
unfolding some_bytes_in
returns-then-put_bytes c = (
  rw (sym c.is_empty.ensures ∙ c.if-is_empty.false)
      (front c.put_bytes.new.bytes _ (length c.args.cell.now / 2) (c.put_bytes.auto.bytes ∙ length-take-le (length c.args.cell.now / 2) c.args.bytes.now (omega arith))
      (rw c.if-put_bytes.true at c.put_bytes.ensures)),
  omega arith,
)

pub returns : goal.returns
unfolding some_bytes_in
returns c = (rw (sym c.is_empty.ensures ∙ c.if-is_empty.false) (rw c.if-put_bytes.false at c.put_bytes.ensures), tt)
