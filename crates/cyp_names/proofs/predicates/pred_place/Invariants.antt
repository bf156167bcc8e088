use Rattle.std.proofs.Common.{◌≡◌, ◌+◌, drop}
use Rattle.cyp_names.specs.Uses.{pred_place}
use Rattle.cyp_names.proofs.predicates.pred_place.Given as goal

abbrev pub invariant-loop-place : goal.invariant-loop-place
invariant-loop-place l = l.place + pred_place l.name.text (drop l.place l.preds) ≡ pred_place l.name.text l.preds
