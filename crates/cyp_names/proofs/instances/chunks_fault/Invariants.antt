use Rattle.std.proofs.Common.{◌≡◌, drop, flat_map}
use Rattle.cyp_names.specs.LeastFaults.{lesser_of}
use Rattle.cyp_names.specs.NameFaults.{chunk_faults}
use Rattle.cyp_names.specs.FaultOrder.{least_fault}
use Rattle.cyp_names.proofs.instances.chunks_fault.Given as goal

abbrev pub invariant-loop-chunk : goal.invariant-loop-chunk
invariant-loop-chunk l = lesser_of l.found (least_fault (flat_map (chunk_faults l.preds) (drop l.chunk-index l.chunks))) ≡ least_fault (flat_map (chunk_faults l.preds) l.chunks)
