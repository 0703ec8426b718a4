use native.Mathlib.Omega.{arith}
use mathlib.Core.Path.{sym, ◌∙◌}
use Rattle.text.proofs.TableLaws.{table-size}
use Rattle.text.proofs.EntryLaws.{enter-known, enter-new, enter-full, enter-long, enter-malformed}
use Rattle.text.proofs.entry.enter.Goals as goal

pub bounds-cells-0 : goal.bounds-cells-0
bounds-cells-0 c = omega (arith, table-size c.args.cells.now (sym c.is_table.ensures ∙ c.if-not-is_table.false))

pub add-requires : goal.add-requires
add-requires c = (table-size _ (sym c.is_table.ensures ∙ c.if-not-is_table.false), c.if-units-gt-MAXIMUM_LENGTH.false, c.if-n-lt-MAXIMUM_STRINGS.true)

pub returns-in-Some : goal.returns-in-Some
returns-in-Some c = let h = enter-known _ _ (sym c.is_table.ensures ∙ c.if-not-is_table.false) _ c.if-units-gt-MAXIMUM_LENGTH.false (sym c.in-Some.is ∙ c.find.ensures) in record { answer = h.0; after = h.1.0; table = h.1.1 }

pub returns-then-n-lt-MAXIMUM_STRINGS : goal.returns-then-n-lt-MAXIMUM_STRINGS
returns-then-n-lt-MAXIMUM_STRINGS c = let h = enter-new _ _ (sym c.is_table.ensures ∙ c.if-not-is_table.false) _ c.if-units-gt-MAXIMUM_LENGTH.false (sym c.in-None.is ∙ c.find.ensures) c.from-n.ensures c.if-n-lt-MAXIMUM_STRINGS.true _ c.add.ensures in record { answer = h.0; after = h.1.0; table = h.1.1 }

pub returns-else-n-lt-MAXIMUM_STRINGS : goal.returns-else-n-lt-MAXIMUM_STRINGS
returns-else-n-lt-MAXIMUM_STRINGS c = let h = enter-full _ _ (sym c.is_table.ensures ∙ c.if-not-is_table.false) _ c.if-units-gt-MAXIMUM_LENGTH.false (sym c.in-None.is ∙ c.find.ensures) c.from-n.ensures c.if-n-lt-MAXIMUM_STRINGS.false in record { answer = h.0; after = h.1.0; table = h.1.1 }

pub returns-then-units-gt-MAXIMUM_LENGTH : goal.returns-then-units-gt-MAXIMUM_LENGTH
returns-then-units-gt-MAXIMUM_LENGTH c = let h = enter-long _ _ (sym c.is_table.ensures ∙ c.if-not-is_table.false) c.if-units-gt-MAXIMUM_LENGTH.true in record { answer = h.0; after = h.1.0; table = h.1.1 }

pub returns-then-not-is_table : goal.returns-then-not-is_table
returns-then-not-is_table c = let h = enter-malformed _ _ (sym c.is_table.ensures ∙ c.if-not-is_table.true) in record { answer = h.0; after = h.1.0; table = h.1.1 }
