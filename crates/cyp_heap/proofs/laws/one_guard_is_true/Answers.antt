use Rattle.cyp_heap.proofs.Guards.{guards_law}
use Rattle.cyp_heap.proofs.laws.one_guard_is_true.Goals as goal

pub returns : goal.returns
returns c = guards_law
