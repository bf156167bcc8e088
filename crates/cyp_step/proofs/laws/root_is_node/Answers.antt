use Rattle.cyp_step.proofs.Root.{root_is_node}
use Rattle.cyp_step.proofs.laws.root_is_node.Goals as goal

pub returns : goal.returns
returns c = root_is_node
