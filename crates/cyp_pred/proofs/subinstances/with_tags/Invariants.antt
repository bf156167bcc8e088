use Rattle.std.proofs.Common.{◌≡◌, ◌+◌, ◌++◌, ◌<◌, length}
use Rattle.std.specs.Vec.Iter.{into_iter_items}
use Rattle.cyp_heap.specs.Chunks.{insts}
use Rattle.cyp_pred.specs.Unfold.{with_tags}
use Rattle.cyp_pred.proofs.subinstances.with_tags.Given as goal

abbrev pub invariant-loop-chunk : goal.invariant-loop-chunk
invariant-loop-chunk l = record {
  made : l.tagged.items ++ with_tags l.card l.tag l.number (into_iter_items l.chunk-iterator) ≡ with_tags l.card l.tag l.first l.fn.chunks;
  fits : l.number + length (insts (into_iter_items l.chunk-iterator)) < 256;
}
