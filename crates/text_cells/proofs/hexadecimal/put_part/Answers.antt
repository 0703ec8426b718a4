use Rattle.std.specs.Prelude.{Some}
use mathlib.Core.Path.{◌∙◌, sym, ap}
use borrow.Author.Tests.{eq-eqb, ne_eqb}
use Rattle.text_form.specs.Cells.{part_in}
use Rattle.text_cells.proofs.hexadecimal.put_part.Goals as goal

pub returns-then-is_dash : goal.returns-then-is_dash
unfolding part_in
returns-then-is_dash c = rw (sym c.is_dash.ensures ∙ c.if-is_dash.true) (ap Some (c.fill.ensures.after (λ y h. h)))

pub returns-then-cell-bytes : goal.returns-then-cell-bytes
unfolding part_in
returns-then-cell-bytes c = rw (sym c.is_dash.ensures ∙ c.if-is_dash.false, eq-eqb _ _ c.if-cell-bytes.true) c.put_bytes.ensures

pub returns-else-cell-bytes : goal.returns-else-cell-bytes
unfolding part_in
returns-else-cell-bytes c = rw (sym c.is_dash.ensures ∙ c.if-is_dash.false, ne_eqb _ _ c.if-cell-bytes.false)
