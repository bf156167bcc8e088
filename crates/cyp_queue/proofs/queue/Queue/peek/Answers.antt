use Rattle.std.proofs.Common.{refl, ◌∙◌, ap, subst, map, arith}
use Rattle.std.specs.List.{slice_get}
use Rattle.std.specs.BinaryHeap.{heap_items}
use Rattle.cyp_queue.specs.Entries.{Entries, AreInOrder}
use Rattle.cyp_queue.proofs.Sorting.{peeked, are_in_order}
use Rattle.cyp_queue.proofs.queue.Queue.peek.Goals as goal

pub returns-clause-first : goal.returns-clause-first
returns-clause-first c =
    peeked (heap_items c.self.inside.heap) c.in_ok-first.field-0.now (omega (arith, c.in_ok-first.ensures.variant.0 refl, c.self.inside.heap.data.ok.0)) c.in_ok-first.ensures.lookup
    (c.in_ok-first.ensures.greatest c.self.invariant.ordered)
    ∙ ap (λ (v : Entries). slice_get v.entries 0) c.self.view_is

pub returns-clause-ordered : goal.returns-clause-ordered
returns-clause-ordered c = subst (λ (v : Entries). AreInOrder v.entries) c.self.view_is (are_in_order (map (λ x. x.0) (heap_items c.self.inside.heap)))
