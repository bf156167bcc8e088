use Rattle.cyp_machine.proofs.LowBases.{low_along, low_written}
use Rattle.cyp_machine.proofs.heap.Heap.write.Goals as goal

pub invariant_of-self-2 : goal.invariant_of-self-2
invariant_of-self-2 c = low_along _ _ _ c.in_ok-put_cell.ensures.ok (low_written c.self.inside.store c.self.inside.low _ _ c.self.invariant)
