use Rattle.cyp_crew.proofs.Steps.{commit_law}
use Rattle.cyp_crew.proofs.laws.commit_is_one_step.Goals as goal

pub returns : goal.returns
returns g c = commit_law
