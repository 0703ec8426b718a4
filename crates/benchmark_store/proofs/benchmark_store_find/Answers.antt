use mathlib.Core.Path.{sym}
use Rattle.benchmark_store.specs.Export.{find_answer}
use Rattle.benchmark_store.proofs.benchmark_store_find.Goals as goal

pub returns-in-Some : goal.returns-in-Some
unfolding find_answer
returns-in-Some c = rw (sym c.in-Some.ensures, c.in-Some.store.valid, sym c.key_from_word.ensures, sym c.find.ensures) c.place_number.ensures

pub returns-in-None : goal.returns-in-None
unfolding find_answer
returns-in-None c = rw c.in-None.ensures
