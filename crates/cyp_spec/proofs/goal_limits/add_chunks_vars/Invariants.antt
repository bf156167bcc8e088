use Rattle.std.proofs.Common.{◌++◌, ◌≡◌, drop, flat_map}
use Rattle.cyp_heap.specs.Chunks.{chunk_vars}
use Rattle.cyp_spec.proofs.goal_limits.add_chunks_vars.Given as goal

abbrev pub invariant-loop-chunk : goal.invariant-loop-chunk
invariant-loop-chunk l = l.vars.items ++ flat_map chunk_vars (drop l.chunk-index l.chunks) ≡ l.initial.vars.items ++ flat_map chunk_vars l.chunks
