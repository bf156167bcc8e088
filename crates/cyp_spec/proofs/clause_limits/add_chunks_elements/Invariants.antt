use Rattle.std.proofs.Common.{◌++◌, ◌≡◌, drop, flat_map}
use Rattle.cyp_spec.specs.Elements.{tree_elements}
use Rattle.cyp_spec.proofs.clause_limits.add_chunks_elements.Given as goal

abbrev pub invariant-loop-chunk : goal.invariant-loop-chunk
invariant-loop-chunk l = l.terms.items ++ flat_map (tree_elements l.preds l.scope) (drop l.chunk-index l.chunks) ≡ l.initial.terms.items ++ flat_map (tree_elements l.preds l.scope) l.chunks
