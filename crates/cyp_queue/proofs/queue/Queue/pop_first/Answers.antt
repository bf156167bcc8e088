use Rattle.std.proofs.Common.{sym, ◌∙◌, ap}
use Rattle.std.specs.BinaryHeap.{heap_items}
use Rattle.cyp_queue.specs.Entries.{Entries}
use Rattle.cyp_queue.proofs.Sorting.{popped}
use Rattle.cyp_queue.proofs.queue.Queue.pop_first.Goals as goal

pub returns-clause-entries : goal.returns-clause-entries
returns-clause-entries c =
    ap (λ (v : Entries). v.entries) (sym c.self.view_is)
    ∙ popped (heap_items c.self.inside.heap) (heap_items c.pop.new.self) c.in_ok-first.field-0 c.in_ok-first.ensures.permutation (c.in_ok-first.ensures.below_top c.self.invariant.ordered)
