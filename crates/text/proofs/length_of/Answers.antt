use mathlib.Core.Path.{ap}
use lib.ListN.{length}
use Rattle.text.proofs.length_of.Goals as goal

pub returns : goal.returns
returns c = ap length c.text_of.ensures
