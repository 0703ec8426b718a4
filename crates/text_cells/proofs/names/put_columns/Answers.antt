use native.Mathlib.Omega.{arith}
use mathlib.Core.Path.{sym, ◌∙◌}
use Rattle.text_form.specs.Lines.{names}
use Rattle.text_cells.proofs.NameLaws.{columns-end, columns-none, columns-step, columns-seven, columns-other}
use Rattle.text_cells.proofs.names.put_columns.Goals as goal

pub returns-in_default : goal.returns-in_default
returns-in_default c = columns-other _ c.requires.0 c.in_default.ensures

pub returns-in-None : goal.returns-in-None
returns-in-None c = sym
    (columns-seven _ c.requires.0 c.in-Some.ensures.0
    ∙ c.loop-name.invariant
    ∙ columns-none _ names _ _ c.loop-name-test.true c.name_of.ensures c.in-None.ensures)

pub loop-name-preserved : goal.loop-name-preserved
loop-name-preserved c = c.loop-name.invariant
    ∙ columns-step _ names _ _ c.loop-name-test.true c.name_of.ensures _ (omega arith) c.in-Some-column_of.ensures.0

pub returns : goal.returns
returns c = sym
    (columns-seven _ c.requires.0 c.in-Some.ensures.0
    ∙ c.loop-name.invariant
    ∙ columns-end _ names _ _ c.loop-name-test.false (omega arith))
