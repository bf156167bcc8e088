use Rattle.cyp_names.proofs.LesserFaults.{least_more}
use Rattle.cyp_names.specs.NameFaults.{pred_faults}
use Rattle.cyp_names.proofs.clauses.preds_fault.Goals as goal

pub loop-pred-preserved : goal.loop-pred-preserved
loop-pred-preserved c =
    least_more (pred_faults c.args.preds.now) c.args.preds.now c.loop-pred.pred-index c.pred-item.result c.loop-pred.found c.in_ok-fault.fault c.lesser-found.result _ c.loop-pred-test.true c.pred-item.is
    c.in_ok-fault.ensures c.lesser-found.ensures c.loop-pred.invariant
