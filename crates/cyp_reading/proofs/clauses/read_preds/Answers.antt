use Rattle.cyp_reading.proofs.Appended.{map_turn}
use Rattle.cyp_names.specs.Specifications.{read_pred}
use Rattle.cyp_reading.proofs.clauses.read_preds.Goals as goal

pub loop-pred-preserved : goal.loop-pred-preserved
loop-pred-preserved c =
    map_turn (read_pred c.args.preds.now) c.args.preds.now c.loop-pred.pred-index c.pred-item.result _ _ _ _
    c.loop-pred-test.true c.pred-item.is c.in_ok-read_pred.ensures c.in_ok-push.ensures.items c.loop-pred.invariant
