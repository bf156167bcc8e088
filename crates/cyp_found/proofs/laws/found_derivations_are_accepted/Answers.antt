use Rattle.cyp_found.proofs.Accepted.{found_is_accepted}
use Rattle.cyp_found.proofs.laws.found_derivations_are_accepted.Goals as goal

pub returns : goal.returns
returns g = found_is_accepted
