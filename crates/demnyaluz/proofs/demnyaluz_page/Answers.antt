use Rattle.reporting.proofs.ContractLaws.{page-exported}
use Rattle.demnyaluz.proofs.demnyaluz_page.Goals as goal

pub returns : goal.returns
returns c = page-exported c.write_report.ensures c.page.ensures
