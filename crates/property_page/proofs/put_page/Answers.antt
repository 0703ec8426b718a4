use lib.Seq.{length-take-le}
use native.Mathlib.Omega.{arith}
use Rattle.property_page.proofs.PageLaws.{page-put, page-short}
use Rattle.property_page.proofs.put_page.Goals as goal

pub list_own_keys-n-requires : goal.list_own_keys-n-requires
list_own_keys-n-requires c = (c.requires.table, omega arith)

pub put_lines-requires : goal.put_lines-requires
put_lines-requires c = (c.requires, let e = length-take-le c.list_own_keys-n.result c.list_own_keys-n.new.out (omega (arith, c.list_own_keys-n.ensures.fits, c.list_own_keys-n.ensures.size)) in rw e (omega arith))

pub returns-then-size-output : goal.returns-then-size-output
returns-then-size-output c = page-put c.args.store.words.now c.args.strings.now c.args.o c.args.output.now _ _ _ c.list_own_keys-n.ensures _ c.if-size-output.true (rw (← c.put_names.ensures) c.put_lines.ensures)

pub returns : goal.returns
returns c = rw c.refused.ensures (page-short c.args.store.words.now c.args.strings.now c.args.o c.args.output.now _ _ _ c.list_own_keys-n.ensures c.if-size-output.false)
