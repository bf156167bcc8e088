use Rattle.cyp_crew.proofs.DecidedReport.{crew_law}
use Rattle.cyp_crew.proofs.laws.decided_journal_has_the_report.Goals as goal

pub returns : goal.returns
returns g c = crew_law
