use Rattle.reporting.proofs.ContractLaws.{step-exported}
use Rattle.demnyaluz.proofs.demnyaluz_step.Goals as goal

pub returns : goal.returns
returns c = step-exported c.write_report.ensures c.step.ensures
