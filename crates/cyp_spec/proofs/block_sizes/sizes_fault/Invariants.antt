use Rattle.std.proofs.Common.{◌≡◌, drop, flat_map}
use Rattle.cyp_names.specs.LeastFaults.{lesser_of}
use Rattle.cyp_names.specs.PredFaults.{size_fault}
use Rattle.cyp_names.specs.FaultOrder.{least_fault}
use Rattle.cyp_spec.proofs.block_sizes.sizes_fault.Given as goal

abbrev pub invariant-loop-chunk : goal.invariant-loop-chunk
invariant-loop-chunk l = lesser_of l.least (least_fault (flat_map size_fault (drop l.chunk-index l.chunks))) ≡ least_fault (flat_map size_fault l.chunks)
