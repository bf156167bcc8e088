use Rattle.cyp_step.proofs.Premises.{premises_are_nodes}
use Rattle.cyp_step.proofs.laws.premises_are_nodes.Goals as goal

pub returns : goal.returns
returns c = premises_are_nodes
