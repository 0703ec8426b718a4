use Prim.Native.Nat.{◌+◌}
use native.Mathlib.Omega.{arith}
use mathlib.Core.Path.{refl, sym, ◌∙◌}
use lib.ListN.{take, get_or}
use Rattle.std.proofs.lemmas.List.Edits.{length-between}
use Rattle.text_cells.proofs.RecordLaws.{part_sizes, total, all-parts, size_fits, no_part, next-part, parts-end}
use Rattle.text_cells.proofs.parts.put_record.Goals as goal

pub loop-name-init : goal.loop-name-init
unfolding total
loop-name-init c = (refl, all-parts _ _)

pub slice_bounds-put_part-end : goal.slice_bounds-put_part-end
slice_bounds-put_part-end c = let f = size_fits _ _ c.loop-name-test.true c.loop-name.invariant.0 in omega arith

pub returns-then-not-put_part : goal.returns-then-not-put_part
returns-then-not-put_part c =
    let f = size_fits _ _ c.loop-name-test.true c.loop-name.invariant.0 in
    let k = length-between c.loop-name.bytes c.loop-name.at (c.loop-name.at + get_or part_sizes c.loop-name.name 0) (omega arith) in
    no_part _ _ _ c.loop-name-test.true _ (k ∙ omega arith) _ c.cell_in.ensures (take c.loop-name.at c.loop-name.bytes) c.if-not-put_part.ensures ∙ sym c.loop-name.invariant.1

pub loop-name-preserved : goal.loop-name-preserved
loop-name-preserved c =
    let f = size_fits _ _ c.loop-name-test.true c.loop-name.invariant.0 in
    let k = length-between c.loop-name.bytes c.loop-name.at (c.loop-name.at + get_or part_sizes c.loop-name.name 0) (omega arith) in (
      f,
      c.loop-name.invariant.1
          ∙ next-part _ _ _ c.loop-name-test.true _ (k ∙ omega arith) _ c.cell_in.ensures c.loop-name.bytes c.put_part.new.bytes _ _ (omega arith) c.put_part.auto.bytes c.if-not-put_part.ensures,
    )

pub returns : goal.returns
returns c = sym (c.loop-name.invariant.1 ∙ parts-end _ _ _ _ _ c.loop-name-test.false c.loop-name.invariant.0 (omega arith))
