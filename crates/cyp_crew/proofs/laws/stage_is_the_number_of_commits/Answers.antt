use Rattle.cyp_crew.proofs.Paths.{stage_law}
use Rattle.cyp_crew.proofs.laws.stage_is_the_number_of_commits.Goals as goal

pub returns : goal.returns
returns g c = stage_law
