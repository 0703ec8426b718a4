use mathlib.Core.Path.{refl, ◌∙◌}
use Rattle.calls.specs.Outs.{context}
use Rattle.internal_methods.proofs.OrdinaryRuns.{own-run}
use Rattle.property_page.proofs.PageLaws.{read_done, read-failed}
use Rattle.property_page.proofs.read_property.Goals as goal

pub returns-in-Err : goal.returns-in-Err
returns-in-Err c = absurd (read-failed _ c.get_own_property.result _ _ _ (c.get_own_property.ensures ∙ own-run (context c.args.store.words.now c.args.strings.now 256) c.args.o c.requires.object c.requires.found _ 0 0 c.args.key _ refl) c.in-Err.is)

pub returns-in-Ok : goal.returns-in-Ok
returns-in-Ok c = read_done _ c.get_own_property.result _ _ _ (c.get_own_property.ensures ∙ own-run (context c.args.store.words.now c.args.strings.now 256) c.args.o c.requires.object c.requires.found _ 0 0 c.args.key _ refl) c.in-Ok.is
