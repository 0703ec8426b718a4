use mathlib.Core.Path.{sym, ◌∙◌}
use Rattle.benchmark_store.proofs.ExportLaws.{listable, list_count, list-words}
use Rattle.benchmark_store.specs.Export.{listed, list_answer}
use Rattle.benchmark_store.proofs.benchmark_store_own_keys.Goals as goal

pub list_own_keys-requires : goal.list_own_keys-requires
list_own_keys-requires c = let a = listable _ _ _ (sym c.is_listable.ensures ∙ c.if-is_listable.true) in (a.table, a.room)

pub invariant_of-list_own_keys : goal.invariant_of-list_own_keys
invariant_of-list_own_keys c = record { valid = (listable _ _ _ (sym c.is_listable.ensures ∙ c.if-is_listable.true)).store }

pub returns-then-is_listable : goal.returns-then-is_listable
returns-then-is_listable c = let t = sym c.is_listable.ensures ∙ c.if-is_listable.true in let h = c.list_own_keys.ensures in record { value = list_count _ _ _ _ _ _ h t; out_after = list-words _ _ _ _ _ _ h t }

pub returns-else-is_listable : goal.returns-else-is_listable
unfolding listed list_answer
returns-else-is_listable c = let t = sym c.is_listable.ensures ∙ c.if-is_listable.false in record { value = rw t; out_after = rw t }
