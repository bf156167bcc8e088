use Rattle.cyp_crew.proofs.DecidedReport.{two_journals}
use Rattle.cyp_crew.proofs.laws.decided_journals_agree.Goals as goal

pub returns : goal.returns
returns g c = two_journals
