use Rattle.cyp_kernel.proofs.SteadyRules.{leaves_steady}
use Rattle.cyp_kernel.proofs.steady.rules_leave_steady.Goals as goal

pub returns : goal.returns
returns c = leaves_steady
