use Rattle.cyp_sound.proofs.Safety.Rounds.{accepted_is_safe}
use Rattle.cyp_sound.proofs.laws.accepted_derivations_are_safe.Goals as goal

pub returns : goal.returns
returns g = accepted_is_safe
