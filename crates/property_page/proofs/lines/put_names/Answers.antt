use lib.Seq.{sets-eq}
use Rattle.steps.specs.Page.{columns, names, padded}
use Rattle.property_page.proofs.lines.put_names.Goals as goal

pub returns : goal.returns
unfolding columns padded
returns c = rw (sets-eq names c.args.out.now 0 c.requires, c.copy_from_slice.ensures.after)
