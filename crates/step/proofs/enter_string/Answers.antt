use Rattle.step.proofs.StepLaws.{entry-shown}
use Rattle.step.proofs.enter_string.Goals as goal

pub returns : goal.returns
returns c = record { shows = (λ σ. entry-shown σ c.args.strings.now c.args.units.now _ c.enter.result _ c.enter.ensures.answer c.enter.ensures.after c.entered.ensures); cells_are = c.enter.ensures.after; table = c.enter.ensures.table }
