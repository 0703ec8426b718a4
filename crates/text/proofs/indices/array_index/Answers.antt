use lib.ListN.{get_or}
use native.Mathlib.Omega.{arith}
use mathlib.Core.Path.{sym, ◌∙◌}
use borrow.Author.Tests.{eqb-true, eqb-false}
use Rattle.text.proofs.IndexLaws.{is-empty, is_zero, is-padded, is_number, is-long, is-other, below, above}
use Rattle.text.proofs.indices.array_index.Goals as goal

pub returns-then-is_empty : goal.returns-then-is_empty
returns-then-is_empty c = rw (is-empty c.args.units.now (eqb-true _ _ (sym c.is_empty.ensures ∙ c.if-is_empty.true)))

pub returns-in-48 : goal.returns-in-48
returns-in-48 c = rw (is_zero c.args.units.now c.in-48.is c.if-units-eq1.true)

pub returns-in-49-to-57 : goal.returns-in-49-to-57
returns-in-49-to-57 c = let e = eqb-false _ _ (sym c.is_empty.ensures ∙ c.if-is_empty.false) in
    rw (is_number c.args.units.now (λ e. omega arith) (omega arith) c.if-units-le10.true) c.decimal_index.ensures

pub returns-in_default : goal.returns-in_default
returns-in_default c = rw (is-padded c.args.units.now c.in-48.is c.if-units-eq1.false)

pub returns-in_default-2 : goal.returns-in_default-2
returns-in_default-2 c = rw (is-other c.args.units.now (below (get_or c.args.units.now 0 0) (omega arith)) (λ e. omega arith))

pub returns-in_default-3 : goal.returns-in_default-3
returns-in_default-3 c = rw (is-long c.args.units.now (λ e. omega arith) c.if-units-le10.false)

pub returns-in_default-4 : goal.returns-in_default-4
returns-in_default-4 c = rw (is-other c.args.units.now (above (get_or c.args.units.now 0 0) (omega arith)) (λ e. omega arith))
