use native.Mathlib.Omega.{arith}
use Rattle.text.proofs.TableLaws.{added-by}
use Rattle.text.proofs.entry.add.Goals as goal

pub returns : goal.returns
returns c = added-by c.args.cells.now _ _ c.args.n _ c.requires.0 c.requires.1 c.requires.2 c.copy.ensures (omega arith)
