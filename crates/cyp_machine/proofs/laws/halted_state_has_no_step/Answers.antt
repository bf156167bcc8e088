use Rattle.cyp_machine.proofs.Halted.{halted_has_no_step}
use Rattle.cyp_machine.proofs.laws.halted_state_has_no_step.Goals as goal

pub returns : goal.returns
returns c = halted_has_no_step
