use Rattle.cyp_found.proofs.Accepted.{found_is_correct}
use Rattle.cyp_found.proofs.laws.found_derivations_are_correct.Goals as goal

pub returns : goal.returns
returns g = found_is_correct
