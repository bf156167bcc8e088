use Rattle.cyp_kernel.proofs.BoundAlone.{bound_is_only}
use Rattle.cyp_kernel.proofs.BoundEquation.{bound_law}
use Rattle.cyp_kernel.proofs.laws.bound_in_one_line.Goals as goal

pub returns-clause-holds : goal.returns-clause-holds
returns-clause-holds c = bound_law

pub returns-clause-alone : goal.returns-clause-alone
returns-clause-alone c = bound_is_only
