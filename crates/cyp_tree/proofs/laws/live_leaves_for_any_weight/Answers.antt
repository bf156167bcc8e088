use Rattle.cyp_tree.proofs.OnePlace.{live_for}
use Rattle.cyp_tree.proofs.laws.live_leaves_for_any_weight.Goals as goal

pub returns : goal.returns
returns g c = live_for
