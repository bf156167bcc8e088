use Rattle.cyp_search.proofs.ReportProof.{report_law}
use Rattle.cyp_search.proofs.laws.report_is_of_the_least_stage.Goals as goal

pub returns : goal.returns
returns g c = report_law
