use Rattle.cyp_heap.proofs.Bounds.{bound_law}
use Rattle.cyp_heap.proofs.laws.instance_means_at_any_bound.Goals as goal

pub returns : goal.returns
returns c = bound_law
