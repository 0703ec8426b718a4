use mathlib.Core.Path.{sym, ◌∙◌}
use borrow.Author.Tests.{eq-eqb, ne_eqb}
use Rattle.value.specs.Value.{same_value}
use Rattle.value_operations.proofs.equality.same_value.Goals as goal

pub returns-then-kind-type_of : goal.returns-then-kind-type_of
unfolding same_value
returns-then-kind-type_of c = simp (ne_eqb _ _ (λ q. c.if-kind-type_of.true (c.type_of-kind.ensures ∙ q ∙ sym c.type_of.ensures)))

pub returns-then-kind-eq3 : goal.returns-then-kind-eq3
unfolding same_value
returns-then-kind-eq3 c = let t = sym c.type_of-kind.ensures ∙ c.if-kind-type_of.false ∙ c.type_of.ensures in
    simp (eq-eqb _ _ t, eq-eqb _ _ (sym c.type_of-kind.ensures ∙ c.if-kind-eq3.true)) (cc)

pub returns : goal.returns
unfolding same_value
returns c = let t = sym c.type_of-kind.ensures ∙ c.if-kind-type_of.false ∙ c.type_of.ensures in
    simp (eq-eqb _ _ t, ne_eqb _ _ (λ q. c.if-kind-eq3.false (c.type_of-kind.ensures ∙ q))) (cc)
