use Rattle.cyp_goal.proofs.LeastTerms.{least_more}
use Rattle.cyp_goal.proofs.addresses.least.Goals as goal

pub loop-term-preserved : goal.loop-term-preserved
loop-term-preserved c =
    least_more c.args.var c.args.terms.now c.loop-term.term-index c.term-item.result c.loop-term.best c.lesser-best.result c.loop-term.invariant c.loop-term-test.true c.term-item.is c.lesser-best.ensures
