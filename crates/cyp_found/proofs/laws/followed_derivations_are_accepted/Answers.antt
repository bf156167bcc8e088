use Rattle.cyp_found.proofs.Accepted.{followed_is_accepted}
use Rattle.cyp_found.proofs.laws.followed_derivations_are_accepted.Goals as goal

pub returns : goal.returns
returns g = followed_is_accepted
