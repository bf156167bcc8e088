use Rattle.std.proofs.Common.{◌++◌, ◌≡◌, drop, map}
use Rattle.cyp_names.specs.Specifications.{read_pred}
use Rattle.cyp_reading.proofs.clauses.read_preds.Given as goal

abbrev pub invariant-loop-pred : goal.invariant-loop-pred
invariant-loop-pred l = l.read.items ++ map (read_pred l.preds) (drop l.pred-index l.preds) ≡ map (read_pred l.preds) l.preds
