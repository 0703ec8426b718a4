use native.Mathlib.Omega.{arith}
use mathlib.Core.Path.{◌∙◌}
use Rattle.text_cells.proofs.HexadecimalLaws.{next-unit, units-end}
use Rattle.text_cells.proofs.hexadecimal.put_units.Goals as goal

pub loop-i-preserved : goal.loop-i-preserved
loop-i-preserved c = c.loop-i.invariant ∙ next-unit c.args.bytes.now c.loop-i.i (omega arith) c.loop-i.units (omega arith) c.from_be_bytes.ensures

pub returns : goal.returns
returns c = c.loop-i.invariant ∙ units-end c.args.bytes.now c.loop-i.units c.loop-i.i (omega arith) (omega arith)
