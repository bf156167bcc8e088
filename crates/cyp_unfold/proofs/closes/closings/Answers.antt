use Rattle.cyp_unfold.proofs.ClauseTurns.{clause_added}
use Rattle.cyp_unfold.proofs.closes.closings.Goals as goal

pub loop-clause-preserved : goal.loop-clause-preserved
loop-clause-preserved c =
    clause_added c.args.count c.loop-clause.clause c.loop-clause.rules.items c.push.new.self.items _ c.loop-clause-test.true c.loop-clause.invariant c.in_ok-push.ensures.items
