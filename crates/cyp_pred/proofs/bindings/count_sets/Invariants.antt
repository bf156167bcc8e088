use Rattle.std.proofs.Common.{◌≡◌, ◌+◌, ◌≤◌, drop, length}
use Rattle.cyp_pred.specs.Unfold.{set_args}
use Rattle.cyp_pred.proofs.bindings.count_sets.Given as goal

abbrev pub invariant-loop-arg : goal.invariant-loop-arg
invariant-loop-arg l = record {
  counted : l.count + length (set_args (drop l.arg-index l.args)) ≡ length (set_args l.args);
  fits : l.count ≤ l.arg-index;
}
