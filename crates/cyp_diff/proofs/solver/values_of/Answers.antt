use Rattle.cyp_diff.proofs.Answering.{value_step}
use Rattle.cyp_diff.proofs.solver.values_of.Goals as goal

pub loop-k-preserved : goal.loop-k-preserved
loop-k-preserved c =
    value_step c.args.vars.now c.args.xs.now c.loop-k.values.items c.push.new.self.items c.loop-k.k _ c.requires.places c.requires.low c.loop-k-test.true c.loop-k.invariant c.in_ok-push.ensures.items
