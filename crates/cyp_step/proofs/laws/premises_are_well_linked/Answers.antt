use Rattle.cyp_step.proofs.Premises.{premises_are_well_linked}
use Rattle.cyp_step.proofs.laws.premises_are_well_linked.Goals as goal

pub returns : goal.returns
returns c = premises_are_well_linked
