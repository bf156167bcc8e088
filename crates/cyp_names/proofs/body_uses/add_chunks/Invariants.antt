use Rattle.std.proofs.Common.{◌≡◌, ◌++◌, drop, flat_map}
use Rattle.cyp_names.specs.Orders.{chunk_of_kind}
use Rattle.cyp_names.proofs.body_uses.add_chunks.Given as goal

abbrev pub invariant-loop-chunk : goal.invariant-loop-chunk
invariant-loop-chunk l =
    l.uses.items ++ flat_map (chunk_of_kind l.kinds l.order l.preds) (drop l.chunk-index l.chunks)
    ≡ l.initial.uses.items ++ flat_map (chunk_of_kind l.kinds l.order l.preds) l.chunks
