use Rattle.cyp_kernel.proofs.BoundGrowth.{bound_grows, bound_is_above}
use Rattle.cyp_kernel.proofs.laws.bound_grows.Goals as goal

pub returns-clause-grows : goal.returns-clause-grows
returns-clause-grows c = bound_grows

pub returns-clause-above : goal.returns-clause-above
returns-clause-above c = bound_is_above
