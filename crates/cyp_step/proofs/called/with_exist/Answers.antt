use Rattle.cyp_step.proofs.CallTurns.{exist_turn}
use Rattle.cyp_step.proofs.called.with_exist.Goals as goal

pub loop-var-preserved : goal.loop-var-preserved
loop-var-preserved c =
    exist_turn c.args.exist.now c.loop-var.var-index _ c.loop-var.next c.bind_new.new.next c.loop-var.by c.bind_new.new.by _ c.loop-var.invariant c.loop-var-test.true
    c.in_ok-bind_new.ensures.next c.in_ok-bind_new.ensures.by
