use Rattle.cyp_kernel.proofs.LowerMeasures.{lower_is_below}
use Rattle.cyp_kernel.proofs.laws.lower_measure_is_bounded.Goals as goal

pub returns : goal.returns
returns c = lower_is_below
