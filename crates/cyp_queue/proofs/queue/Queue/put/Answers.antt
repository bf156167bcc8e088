use Rattle.std.proofs.Common.{sym, ◌∙◌, ap, ◌<◌, ◌∷◌, arith}
use Rattle.std.specs.BinaryHeap.{heap_items, heap_len, heap_capacity}
use Rattle.cyp_queue.specs.declared.entry.Entry.{Entry}
use Rattle.cyp_queue.specs.Entries.{Entries, put_entry}
use Rattle.cyp_queue.proofs.Sorting.{entries-permutation, ok_gives}
use Rattle.cyp_queue.proofs.queue.Queue.put.Goals as goal

pub returns-clause-entries : goal.returns-clause-entries
returns-clause-entries c =
    let e : Entry = record { priority = c.args.priority; leaf = c.args.leaf } in
    let fits : heap_len c.self.inside.heap < heap_capacity c.self.inside.heap = omega (arith, c.self.invariant.room, ap (λ (v : Entries). v.spare) c.self.view_is, c.requires) in
    sym (entries-permutation (record { 0 = e } ∷ heap_items c.self.inside.heap) (heap_items c.push.new.self) (ok_gives c.push.result (c.push.ensures.succeeds fits) c.push.ensures.permutation))
    ∙ ap (λ (v : Entries). put_entry e v.entries) c.self.view_is
