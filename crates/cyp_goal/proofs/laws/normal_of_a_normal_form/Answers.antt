use Rattle.cyp_goal.proofs.NormalOfNormal.{normal_of_normal}
use Rattle.cyp_goal.proofs.laws.normal_of_a_normal_form.Goals as goal

pub returns : goal.returns
returns c = normal_of_normal
