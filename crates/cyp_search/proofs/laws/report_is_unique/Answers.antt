use Rattle.cyp_search.proofs.OneReport.{one_report}
use Rattle.cyp_search.proofs.laws.report_is_unique.Goals as goal

pub returns : goal.returns
returns g c = one_report
