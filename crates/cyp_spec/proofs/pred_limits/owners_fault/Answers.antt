use Rattle.cyp_names.proofs.LesserFaults.{least_more}
use Rattle.cyp_names.specs.PredFaults.{unproductive_fault}
use Rattle.cyp_spec.proofs.pred_limits.owners_fault.Goals as goal

pub loop-clause-preserved : goal.loop-clause-preserved
loop-clause-preserved c =
    least_more unproductive_fault c.as_slice-others.result.now c.loop-clause.clause-index c.clause-item.result c.loop-clause.least c.owner_fault.result c.lesser-least.result _ c.loop-clause-test.true
    c.clause-item.is c.owner_fault.ensures c.lesser-least.ensures c.loop-clause.invariant
