use Rattle.cyp_crew.proofs.DecidedReport.{crew_is_report}
use Rattle.cyp_crew.proofs.laws.decided_journal_ends_at_the_least_stage.Goals as goal

pub returns : goal.returns
returns g c = crew_is_report
