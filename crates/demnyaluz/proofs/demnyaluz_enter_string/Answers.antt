use Rattle.reporting.proofs.ContractLaws.{string-exported}
use Rattle.demnyaluz.proofs.demnyaluz_enter_string.Goals as goal

pub returns : goal.returns
returns c = string-exported c.write_report.ensures c.enter_string.ensures
