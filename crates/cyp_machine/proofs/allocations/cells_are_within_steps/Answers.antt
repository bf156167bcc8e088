use Rattle.cyp_machine.proofs.Allocated.{allocated_within, cells, heap_within, start_within}
use Rattle.cyp_machine.proofs.allocations.cells_are_within_steps.Goals as goal

pub returns-clause-cells : goal.returns-clause-cells
returns-clause-cells c = cells

pub returns-clause-allocated : goal.returns-clause-allocated
returns-clause-allocated c = allocated_within

pub returns-clause-start : goal.returns-clause-start
returns-clause-start c = start_within

pub returns-clause-heap : goal.returns-clause-heap
returns-clause-heap c = heap_within
