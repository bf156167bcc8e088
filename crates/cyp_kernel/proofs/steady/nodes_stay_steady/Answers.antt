use Rattle.cyp_kernel.proofs.SteadyRules.{premises_steady, root_is_steady}
use Rattle.cyp_kernel.proofs.steady.nodes_stay_steady.Goals as goal

pub returns : goal.returns
returns c = record { root = root_is_steady; premises = premises_steady }
