use Rattle.cyp_heap.proofs.Heights.{side_heights_law}
use Rattle.cyp_heap.proofs.laws.side_heights_are_within_cells.Goals as goal

pub returns : goal.returns
returns c = side_heights_law
