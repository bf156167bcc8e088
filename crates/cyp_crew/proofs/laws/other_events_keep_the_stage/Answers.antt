use Rattle.cyp_crew.proofs.Steps.{stay_law}
use Rattle.cyp_crew.proofs.laws.other_events_keep_the_stage.Goals as goal

pub returns : goal.returns
returns g c = stay_law
