use lib.Seq.{sets-eq}
use Rattle.text_form.specs.Rows.{heading}
use Rattle.text_rows.proofs.put_heading.Goals as goal

pub returns : goal.returns
returns c = rw (sets-eq heading c.args.rows.now 0 c.requires, c.copy_from_slice.ensures.after)
