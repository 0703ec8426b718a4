use mathlib.Core.Path.{sym, ◌∙◌}
use native.Mathlib.Omega.{arith}
use Rattle.store.proofs.WordLaws.{sized}
use Rattle.benchmark_store.proofs.ExportLaws.{removable, remove-words, remove-count}
use Rattle.benchmark_store.specs.Export.{removed, remove_answer}
use Rattle.benchmark_store.proofs.benchmark_store_remove.Goals as goal

pub remove_property-requires : goal.remove_property-requires
remove_property-requires c = let a = removable _ _ _ (sym c.is_removable.ensures ∙ c.if-is_removable.true) in (a.store, rw c.key_from_word.ensures a.joins)

pub bounds-words-1 : goal.bounds-words-1
bounds-words-1 c = let s = sized _ c.remove_property.ensures.kept in omega arith

pub returns-then-is_removable : goal.returns-then-is_removable
returns-then-is_removable c = let t = sym c.is_removable.ensures ∙ c.if-is_removable.true in let w = c.remove_property.ensures.words in record { value = remove-count _ _ _ _ _ t c.key_from_word.ensures w; words_after = remove-words _ _ _ _ _ t c.key_from_word.ensures w }

pub returns-else-is_removable : goal.returns-else-is_removable
unfolding removed remove_answer
returns-else-is_removable c = let t = sym c.is_removable.ensures ∙ c.if-is_removable.false in record { value = rw t; words_after = rw t }
