use Prim.Native.Nat.{◌+◌}
use native.Mathlib.Omega.{arith}
use lib.ListN.{length-set}
use Rattle.steps.specs.Page.{key_column, attributes_column, first_column, second_column}
use Rattle.steps.proofs.Pages.{length-key, length-attributes, length-first, length-second}
use Rattle.property_page.proofs.LineLaws.{columns-set}
use Rattle.property_page.proofs.lines.put_line.Goals as goal

pub put_attributes-requires : goal.put_attributes-requires
put_attributes-requires c = omega (arith, length-set c.put_key.new.out (c.args.at + 4) 32)

pub bounds-out-at-2 : goal.bounds-out-at-2
bounds-out-at-2 c = omega (arith, length-set c.put_key.new.out (c.args.at + 4) 32)

pub put_first-requires : goal.put_first-requires
put_first-requires c = omega (arith, length-set c.put_key.new.out (c.args.at + 4) 32, length-set c.put_attributes.new.out (c.args.at + 8) 32)

pub bounds-out-at-3 : goal.bounds-out-at-3
bounds-out-at-3 c = omega (arith, length-set c.put_key.new.out (c.args.at + 4) 32, length-set c.put_attributes.new.out (c.args.at + 8) 32)

pub put_second-requires : goal.put_second-requires
put_second-requires c = omega (arith, length-set c.put_key.new.out (c.args.at + 4) 32, length-set c.put_attributes.new.out (c.args.at + 8) 32, length-set c.put_first.new.out (c.args.at + 27) 32)

pub bounds-out-at-4 : goal.bounds-out-at-4
bounds-out-at-4 c = omega (arith, length-set c.put_key.new.out (c.args.at + 4) 32, length-set c.put_attributes.new.out (c.args.at + 8) 32, length-set c.put_first.new.out (c.args.at + 27) 32)

pub shape_of-out : goal.shape_of-out
shape_of-out c = omega (arith, length-set c.put_key.new.out (c.args.at + 4) 32, length-set c.put_attributes.new.out (c.args.at + 8) 32, length-set c.put_first.new.out (c.args.at + 27) 32, length-set c.put_second.new.out (c.args.at + 46) 10)

pub returns : goal.returns
returns c = let k = c.args.key in
    let p = c.args.p in
    rw (c.put_second.ensures, c.put_first.ensures, c.put_attributes.ensures, c.put_key.ensures)
    (columns-set c.args.out.now (key_column k) (attributes_column p) (first_column p) (second_column p) c.args.at (length-key k) (length-attributes p) (length-first p) (length-second p))
