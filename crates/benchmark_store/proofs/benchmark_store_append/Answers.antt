use mathlib.Core.Path.{sym, ◌∙◌}
use native.Mathlib.Omega.{arith}
use Rattle.store.proofs.WordLaws.{sized}
use Rattle.benchmark_store.proofs.ExportLaws.{addable, add_words, add-count}
use Rattle.benchmark_store.specs.Export.{added, add_answer}
use Rattle.benchmark_store.proofs.benchmark_store_append.Goals as goal

pub add_property-requires : goal.add_property-requires
add_property-requires c = let a = addable _ _ _ (sym c.is_addable.ensures ∙ c.if-is_addable.true) in (a.store, rw c.key_from_word.ensures a.new)

pub bounds-words-1 : goal.bounds-words-1
bounds-words-1 c = let s = sized _ c.add_property.ensures.kept in omega arith

pub returns-then-is_addable : goal.returns-then-is_addable
returns-then-is_addable c = let t = sym c.is_addable.ensures ∙ c.if-is_addable.true in let w = c.add_property.ensures.words in record { value = add-count _ _ _ _ _ _ _ t c.key_from_word.ensures c.property_of.ensures w; words_after = add_words _ _ _ _ _ _ _ t c.key_from_word.ensures c.property_of.ensures w }

pub returns-else-is_addable : goal.returns-else-is_addable
unfolding added add_answer
returns-else-is_addable c = let t = sym c.is_addable.ensures ∙ c.if-is_addable.false in record { value = rw t; words_after = rw t }
