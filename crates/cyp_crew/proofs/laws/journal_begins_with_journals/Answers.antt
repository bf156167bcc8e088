use Rattle.cyp_crew.proofs.Paths.{prefix_law}
use Rattle.cyp_crew.proofs.laws.journal_begins_with_journals.Goals as goal

pub returns : goal.returns
returns g c = prefix_law
