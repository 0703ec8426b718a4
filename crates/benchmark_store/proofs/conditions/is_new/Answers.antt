use mathlib.Core.Path.{sym, ◌∙◌}
use Rattle.store_read.proofs.ReadLaws.{own-found, own-missed}
use Rattle.benchmark_store.specs.Export.{is_new}
use Rattle.benchmark_store.proofs.conditions.is_new.Goals as goal

pub returns-in-Some : goal.returns-in-Some
unfolding is_new
returns-in-Some c = rw (sym c.key_from_word.ensures, own-found _ _ _ _ (sym c.find.ensures ∙ c.in-Some.is))

pub returns-in-None : goal.returns-in-None
unfolding is_new
returns-in-None c = rw (sym c.key_from_word.ensures, own-missed _ _ _ (sym c.find.ensures ∙ c.in-None.is))
