use Rattle.cyp_heap.proofs.Applied.{apply_chunks_law}
use Rattle.cyp_heap.proofs.laws.applied_chunks_hold.Goals as goal

pub returns : goal.returns
returns c = apply_chunks_law
