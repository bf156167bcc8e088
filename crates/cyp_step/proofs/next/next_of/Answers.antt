use Rattle.std.proofs.Common.{◌∙◌}
use Rattle.cyp_step.proofs.NextNumbers.{next_made}
use Rattle.cyp_step.proofs.next.next_of.Goals as goal

pub returns-clause-next : goal.returns-clause-next
returns-clause-next c =
    next_made c.args.node.now c.as_slice-vars.result.now c.above.result c.above-2.result c.above-3.result (c.as_slice-vars.ensures.value ∙ c.in_ok-vars.ensures.vars)
    c.above.ensures.above c.above-2.ensures.above c.above-3.ensures.above
