use Rattle.cyp_step.proofs.BlocksMade.{block_put, cell_put, made_in_order}
use Rattle.cyp_step.proofs.allocating.with_block.Goals as goal

pub loop-more-init : goal.loop-more-init
loop-more-init c =
    block_put c.args.var c.args.size c.args.pre.chunks c.into_chunks-chunks.result c.as_slice.result.now c.insert.new.self c.first_cell-place.result c.new.result c.new-block.result
    c.into_chunks-chunks.ensures.chunks c.as_slice.ensures c.new.ensures c.new-block.ensures c.first_cell-place.ensures.place c.in_ok-insert.ensures.ok

pub loop-more-preserved : goal.loop-more-preserved
loop-more-preserved c =
    cell_put c.args.var c.args.size c.loop-more.more c.loop-more.chunks c.push.new.self c.new_cell.result _ c.loop-more-test.true c.new_cell.ensures c.in_ok-push.ensures.ok c.loop-more.invariant

pub new-requires-2 : goal.new-requires-2
new-requires-2 c =
    made_in_order c.args.var c.args.size c.loop-more.more c.args.pre.chunks c.into_chunks-chunks.result c.loop-more.chunks c.into_chunks-chunks.ensures.chunks c.into_chunks-chunks.ensures.order
    c.loop-more-test.false c.loop-more.invariant
