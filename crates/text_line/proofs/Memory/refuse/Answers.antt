use mathlib.Core.Path.{refl}
use Rattle.text_line.proofs.Memory.refuse.Goals as goal

pub returns : goal.returns
returns c = record { words_after = refl; strings_after = refl; done = record { same_words = refl; same_strings = refl; same_rows = refl; done = c.refuse.ensures } }
