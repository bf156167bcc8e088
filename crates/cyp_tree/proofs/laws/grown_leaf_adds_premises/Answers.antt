use Rattle.cyp_tree.proofs.LiveLeaf.{grown_size}
use Rattle.cyp_tree.proofs.laws.grown_leaf_adds_premises.Goals as goal

pub returns : goal.returns
returns g c = grown_size
