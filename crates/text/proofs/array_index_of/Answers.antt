use mathlib.Core.Path.{◌∙◌}
use Rattle.text.proofs.array_index_of.Goals as goal

pub returns : goal.returns
returns c = c.array_index.ensures ∙ rw c.text_of.ensures
