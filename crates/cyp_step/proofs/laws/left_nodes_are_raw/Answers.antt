use Rattle.cyp_step.proofs.Premises.{left_nodes_are_raw}
use Rattle.cyp_step.proofs.laws.left_nodes_are_raw.Goals as goal

pub returns : goal.returns
returns c = left_nodes_are_raw
