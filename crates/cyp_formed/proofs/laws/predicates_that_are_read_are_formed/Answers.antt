use Rattle.cyp_formed.proofs.ReadTrees.{read_preds_are_formed}
use Rattle.cyp_formed.proofs.laws.predicates_that_are_read_are_formed.Goals as goal

pub returns : goal.returns
returns c = read_preds_are_formed
