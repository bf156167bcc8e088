use Rattle.std.proofs.Common.{◌++◌, ◌≡◌, drop, flat_map}
use Rattle.cyp_heap.specs.Limits.{chunk_elements}
use Rattle.cyp_spec.proofs.goal_limits.add_chunks_elements.Given as goal

abbrev pub invariant-loop-chunk : goal.invariant-loop-chunk
invariant-loop-chunk l = l.terms.items ++ flat_map chunk_elements (drop l.chunk-index l.chunks) ≡ l.initial.terms.items ++ flat_map chunk_elements l.chunks
