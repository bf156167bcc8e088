use Rattle.cyp_names.proofs.LesserFaults.{least_more}
use Rattle.cyp_names.specs.NameFaults.{chunk_faults}
use Rattle.cyp_names.proofs.instances.chunks_fault.Goals as goal

pub loop-chunk-preserved : goal.loop-chunk-preserved
loop-chunk-preserved c =
    least_more (chunk_faults c.args.preds.now) c.args.chunks.now c.loop-chunk.chunk-index c.chunk-item.result c.loop-chunk.found c.chunk_fault.result c.lesser-found.result _ c.loop-chunk-test.true c.chunk-item.is
    c.chunk_fault.ensures c.lesser-found.ensures c.loop-chunk.invariant
