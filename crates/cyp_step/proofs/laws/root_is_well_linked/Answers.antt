use Rattle.cyp_step.proofs.Root.{root_is_well_linked}
use Rattle.cyp_step.proofs.laws.root_is_well_linked.Goals as goal

pub returns : goal.returns
returns c = root_is_well_linked
