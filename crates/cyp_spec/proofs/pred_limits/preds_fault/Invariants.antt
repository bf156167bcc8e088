use Rattle.std.proofs.Common.{◌≡◌, drop, flat_map}
use Rattle.cyp_names.specs.LeastFaults.{lesser_of}
use Rattle.cyp_names.specs.PredFaults.{pred_limit_faults}
use Rattle.cyp_names.specs.FaultOrder.{least_fault}
use Rattle.cyp_spec.proofs.pred_limits.preds_fault.Given as goal

abbrev pub invariant-loop-pred : goal.invariant-loop-pred
invariant-loop-pred l =
    lesser_of l.least (least_fault (flat_map (pred_limit_faults l.preds) (drop l.pred-index l.preds))) ≡ least_fault (flat_map (pred_limit_faults l.preds) l.preds)
