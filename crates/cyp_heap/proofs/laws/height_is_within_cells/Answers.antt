use Rattle.cyp_heap.proofs.Heights.{height_law}
use Rattle.cyp_heap.proofs.laws.height_is_within_cells.Goals as goal

pub returns : goal.returns
returns c = height_law
