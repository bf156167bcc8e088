use Rattle.cyp_top.proofs.WholeOutputs.{workers_change_nothing}
use Rattle.cyp_top.proofs.laws.workers_change_nothing.Goals as goal

pub returns : goal.returns
returns c = workers_change_nothing
