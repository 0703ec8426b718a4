use native.Mathlib.Omega.{arith}
use mathlib.Core.Path.{sym, ap, ◌∙◌}
use Rattle.text_form.specs.Lines.{entry_of}
use Rattle.text_line.proofs.LineLaws.{as_call, bytes-within, bytes-decoded, none-decoded, take_short, dash-text, some-text}
use borrow.Author.Rules.{rules}
use Rattle.text_line.proofs.Memory.entry_line.Goals as goal

pub returns-then-is_dash : goal.returns-then-is_dash
returns-then-is_dash c = as_call (ap (entry_of _) (dash-text _ (sym c.is_dash.ensures ∙ c.if-is_dash.true))) c.perform_units.ensures

pub slice_bounds-text-end : goal.slice_bounds-text-end
slice_bounds-text-end c = omega (arith, bytes-within _ c.in-Some.is c.put_some.ensures.1)

pub perform_units-requires-in-Some : goal.perform_units-requires-in-Some
perform_units-requires-in-Some c = (search rules, omega (arith, take_short c.in-Some.n c.put_some.new.bytes))

pub returns-in-None : goal.returns-in-None
returns-in-None c = as_call (ap (entry_of _) (some-text _ (sym c.is_dash.ensures ∙ c.if-is_dash.false) (none-decoded _ _ c.in-None.is c.put_some.ensures.0))) c.refuse.ensures.done

pub returns-in-Some : goal.returns-in-Some
returns-in-Some c = as_call (ap (entry_of _) (some-text _ (sym c.is_dash.ensures ∙ c.if-is_dash.false) (bytes-decoded _ _ c.in-Some.is c.put_some.ensures.0))) c.perform_units-in-Some.ensures
