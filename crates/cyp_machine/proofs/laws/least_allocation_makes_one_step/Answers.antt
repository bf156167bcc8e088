use Rattle.cyp_machine.proofs.Going.{least_is_a_step}
use Rattle.cyp_machine.proofs.Least.{least_is_one}
use Rattle.cyp_machine.proofs.laws.least_allocation_makes_one_step.Goals as goal

pub returns-clause-allowed : goal.returns-clause-allowed
returns-clause-allowed c = least_is_a_step

pub returns-clause-alone : goal.returns-clause-alone
returns-clause-alone c = least_is_one
