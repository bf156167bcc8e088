use Rattle.cyp_names.proofs.LesserFaults.{least_more}
use Rattle.cyp_names.specs.PredFaults.{size_fault}
use Rattle.cyp_spec.proofs.block_sizes.sizes_fault.Goals as goal

pub loop-chunk-preserved : goal.loop-chunk-preserved
loop-chunk-preserved c =
    least_more size_fault c.as_slice-chunks.result.now c.loop-chunk.chunk-index c.chunk-item.result c.loop-chunk.least c.size_fault.result c.lesser-least.result _ c.loop-chunk-test.true c.chunk-item.is
    c.size_fault.ensures c.lesser-least.ensures c.loop-chunk.invariant
