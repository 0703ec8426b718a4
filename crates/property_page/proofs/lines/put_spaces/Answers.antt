use Prim.Native.Nat.{◌+◌, ◌-◌}
use mathlib.Core.List.{[]}
use native.Mathlib.Omega.{arith}
use Rattle.steps.specs.Page.{padded}
use Rattle.text.proofs.CopyLaws.{copied}
use Rattle.property_page.proofs.lines.put_spaces.Goals as goal

pub returns : goal.returns
unfolding padded
returns c = copied c.args.out.now c.args.at (c.args.at + 18 - c.args.at) (padded 18 []) _ c.copy_from_slice.ensures.after (omega arith) c.requires
