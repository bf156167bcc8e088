use Rattle.cyp_tree.proofs.OnePlace.{live_stands}
use Rattle.cyp_tree.proofs.laws.live_leaf_has_its_place.Goals as goal

pub returns : goal.returns
returns g c = λ weight t w h. live_stands weight 0 t w h
