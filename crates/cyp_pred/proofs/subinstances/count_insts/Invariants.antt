use Rattle.std.proofs.Common.{◌≡◌, ◌+◌, ◌≤◌, drop, length}
use Rattle.cyp_heap.specs.Chunks.{insts}
use Rattle.cyp_pred.proofs.subinstances.count_insts.Given as goal

abbrev pub invariant-loop-chunk : goal.invariant-loop-chunk
invariant-loop-chunk l = record {
  counted : l.count + length (insts (drop l.chunk-index l.chunks)) ≡ length (insts l.chunks);
  fits : l.count ≤ l.chunk-index;
}
