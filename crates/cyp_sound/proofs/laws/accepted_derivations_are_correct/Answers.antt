use Rattle.cyp_sound.proofs.Time.Correct.{accepted_is_correct}
use Rattle.cyp_sound.proofs.laws.accepted_derivations_are_correct.Goals as goal

pub returns : goal.returns
returns g = accepted_is_correct
