use native.Mathlib.Omega.{arith}
use Rattle.key_lists.proofs.KeyLaws.{string-word, other_word}
use Rattle.key_lists.proofs.key_bytes.key_word_at.Goals as goal

pub overflow_mul-result : goal.overflow_mul-result
overflow_mul-result c = let h = (string-word _ _ c.requires.1.1 _ c.word_at-number.ensures c.if-sheet-at-eq5.true).1 in omega arith

pub overflow_mul-result-else-sheet-at-eq5 : goal.overflow_mul-result-else-sheet-at-eq5
overflow_mul-result-else-sheet-at-eq5 c = let h = (other_word _ _ c.requires.1.1 _ c.word_at-number.ensures c.requires.1.0 c.if-sheet-at-eq5.false).1 in omega arith

pub overflow_add-result : goal.overflow_add-result
overflow_add-result c = let h = (other_word _ _ c.requires.1.1 _ c.word_at-number.ensures c.requires.1.0 c.if-sheet-at-eq5.false).1 in omega arith

pub returns-then-sheet-at-eq5 : goal.returns-then-sheet-at-eq5
returns-then-sheet-at-eq5 c = let h = string-word _ _ c.requires.1.1 _ c.word_at-number.ensures c.if-sheet-at-eq5.true in (h.0, omega (arith, h.1))

pub returns-else-sheet-at-eq5 : goal.returns-else-sheet-at-eq5
returns-else-sheet-at-eq5 c = let h = other_word _ _ c.requires.1.1 _ c.word_at-number.ensures c.requires.1.0 c.if-sheet-at-eq5.false in (h.0, omega (arith, h.1))
