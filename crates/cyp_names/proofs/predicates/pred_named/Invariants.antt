use Rattle.std.proofs.Common.{◌≡◌, drop}
use Rattle.cyp_names.specs.Uses.{pred_named}
use Rattle.cyp_names.proofs.predicates.pred_named.Given as goal

abbrev pub invariant-loop-pred : goal.invariant-loop-pred
invariant-loop-pred l = pred_named l.name.text (drop l.pred-index l.preds) ≡ pred_named l.name.text l.preds
