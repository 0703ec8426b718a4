-- Columns written one after another, and the line that they make. Assumes nothing.
use Prim.Native.Nat.{ℕ, suc, ◌+◌}
use native.Mathlib.Omega.{arith}
use mathlib.Core.Path.{◌≡◌, sym, ◌∙◌}
use mathlib.Core.List.{List, [], ◌∷◌, ◌++◌}
use lib.ListN.{length, set}
use lib.Seq.{sets}
use Rattle.record.specs.Characters.{space, line_feed}
use Rattle.byte_records.proofs.ByteLaws.{sets-append}
use Rattle.steps.specs.Page.{columns}

-- a column, and the byte after it
then : (column l : List ℕ) (i j n x : ℕ) (rest : List ℕ) → j ≡ i + length column → n ≡ suc j → sets l i (column ++ (x ∷ rest)) ≡ sets (set (sets l i column) j x) n rest
then column l i j n x rest e f = sets-append column l i (x ∷ rest) ∙ rw (f, e)

pub columns-set : (l key attributes first second : List ℕ) (i : ℕ) → length key ≡ 4 → length attributes ≡ 3 → length first ≡ 18 → length second ≡ 18
    → set (sets (set (sets (set (sets (set (sets l i key) (i + 4) space) (i + 5) attributes) (i + 8) space) (i + 9) first) (i + 27) space) (i + 28) second) (i + 46) line_feed
    ≡ sets l i (columns key attributes first second)
unfolding columns
columns-set l key attributes first second i k a f s = sym
    (then key l i (i + 4) (i + 5) space _ (omega arith) (omega arith)
    ∙ then attributes _ (i + 5) (i + 8) (i + 9) space _ (omega arith) (omega arith)
    ∙ then first _ (i + 9) (i + 27) (i + 28) space _ (omega arith) (omega arith)
    ∙ then second _ (i + 28) (i + 46) (i + 47) line_feed [] (omega arith) (omega arith))
