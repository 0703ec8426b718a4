use native.Mathlib.Omega.{arith}
use mathlib.Core.Path.{sym, ap, ◌∙◌}
use lib.Seq.{length-take-le}
use Rattle.text_form.specs.Lines.{step_with}
use Rattle.text_line.proofs.LineLaws.{as_call, bytes-within, bytes-decoded, none-decoded, dash-sheet, some-sheet}
use Rattle.text_line.proofs.Memory.step_line.Goals as goal

pub returns-then-is_dash : goal.returns-then-is_dash
returns-then-is_dash c = as_call (ap (step_with _) (dash-sheet _ (sym c.is_dash.ensures ∙ c.if-is_dash.true))) c.perform_step.ensures

pub slice_bounds-sheet-end : goal.slice_bounds-sheet-end
slice_bounds-sheet-end c = omega (arith, bytes-within _ c.in-Some.is c.put_some.ensures.1)

pub slice_bounds-perform_step-end-in-Some : goal.slice_bounds-perform_step-end-in-Some
slice_bounds-perform_step-end-in-Some c = sym (length-take-le _ _ (omega (arith, bytes-within _ c.in-Some.is c.put_some.ensures.1)))

pub returns-in-None : goal.returns-in-None
returns-in-None c = as_call (ap (step_with _) (some-sheet _ (sym c.is_dash.ensures ∙ c.if-is_dash.false) (none-decoded _ _ c.in-None.is c.put_some.ensures.0))) c.refuse.ensures.done

pub returns-in-Some : goal.returns-in-Some
returns-in-Some c = as_call (ap (step_with _) (some-sheet _ (sym c.is_dash.ensures ∙ c.if-is_dash.false) (bytes-decoded _ _ c.in-Some.is c.put_some.ensures.0))) c.perform_step-in-Some.ensures
