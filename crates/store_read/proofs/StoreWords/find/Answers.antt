use Rattle.std.proofs.Common.{rules}
use mathlib.Core.Path.{sym, ◌∙◌}
use Rattle.store_read.proofs.ReadLaws.{word-found, word-missing, no-owner, no_key}
use Rattle.store_read.proofs.StoreWords.find.Goals as goal
use Rattle.store_read.proofs.StoreWords.find.Goals.{else-o-lt32-via-then-o-lt32+else-number-lt-NUMBERS, else-o-lt32-via-else-o-lt32}

pub returns-in-Some : goal.returns-in-Some
returns-in-Some c = word-found _ _ _ _ _ c.if-o-lt32.true c.number_in-number.ensures c.class_weight.ensures.0 _ (rw c.key_words-list.ensures at (sym c.find_word.ensures ∙ c.in-Some.is))

pub returns-in_default : goal.returns-in_default
returns-in_default c = word-missing _ _ _ _ _ c.if-o-lt32.true c.number_in-number.ensures c.class_weight.ensures.0 (rw c.key_words-list.ensures at (sym c.find_word.ensures ∙ c.in_default.is))

pub returns-else-o-lt32 : goal.returns-else-o-lt32
returns-else-o-lt32 c = elim c.else-o-lt32.branch [
  | else-o-lt32-via-then-o-lt32+else-number-lt-NUMBERS w ↦ no_key _ _ c.key_words-list.ensures (λ i. search rules) _ _ w.if-o-lt32.true (rw (sym c.number_in-number.ensures) w.if-number-lt-NUMBERS.false)
  | else-o-lt32-via-else-o-lt32 w ↦ no-owner _ _ _ w.if-o-lt32.false
]
