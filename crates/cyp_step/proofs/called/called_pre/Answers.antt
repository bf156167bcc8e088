use Rattle.cyp_step.proofs.ChunksKept.{kept_in_order}
use Rattle.cyp_step.proofs.called.called_pre.Goals as goal

pub new-requires : goal.new-requires
new-requires c = kept_in_order c.args.places.now c.chunks.result.now c.in_ok-kept.kept c.chunks.ensures.order c.in_ok-kept.ensures
