use Rattle.cyp_formed.proofs.ReadTrees.{read_is_formed}
use Rattle.cyp_formed.proofs.laws.goal_that_is_read_is_formed.Goals as goal

pub returns : goal.returns
returns c = read_is_formed
