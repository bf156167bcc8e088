use Rattle.cyp_crew.proofs.Published.{published_law}
use Rattle.cyp_crew.proofs.laws.published_nodes_are_listed.Goals as goal

pub returns : goal.returns
returns g c = published_law
