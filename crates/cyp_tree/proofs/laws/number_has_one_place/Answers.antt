use Rattle.cyp_tree.proofs.OnePlace.{one_place}
use Rattle.cyp_tree.proofs.laws.number_has_one_place.Goals as goal

pub returns : goal.returns
returns g c = one_place
