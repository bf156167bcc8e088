use Rattle.cyp_goal.proofs.DressedNormal.{dressing_law}
use Rattle.cyp_goal.proofs.laws.normal_over_other_predicates.Goals as goal

pub returns : goal.returns
returns c = dressing_law
