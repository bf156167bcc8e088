use Rattle.std.proofs.Common.{sym}
use Rattle.cyp_step.proofs.CallTurns.{beside_turn}
use Rattle.cyp_step.proofs.called.chunks_beside.Goals as goal

pub loop-place-preserved : goal.loop-place-preserved
loop-place-preserved c =
    beside_turn c.args.places.now c.loop-place.place c.index-chunks-place.result c.loop-place.kept.items c.args.chunks.now c.add_kept.new.kept.items _ c.has-goes.result
    c.loop-place.invariant c.loop-place-test.true c.index-chunks-place.is (sym c.has-goes.ensures) c.in_ok-add_kept.ensures
