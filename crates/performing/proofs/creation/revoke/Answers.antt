use mathlib.Core.Path.{sym, ◌∙◌}
use Rattle.performing.proofs.CreationLaws.{revocation_fits}
use Rattle.performing.proofs.creation.revoke.Goals as goal

pub returns-in-Some-clause-fits : goal.returns-in-Some-clause-fits
returns-in-Some-clause-fits c = rw c.revocation-write.ensures (revocation_fits c.args.store.words.now c.args.o _ c.args.store.valid (sym c.object_at.ensures ∙ c.in-Some.is))
