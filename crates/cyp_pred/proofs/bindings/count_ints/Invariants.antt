use Rattle.std.proofs.Common.{◌≡◌, ◌+◌, ◌≤◌, drop, length}
use Rattle.cyp_pred.specs.Unfold.{int_args}
use Rattle.cyp_pred.proofs.bindings.count_ints.Given as goal

abbrev pub invariant-loop-arg : goal.invariant-loop-arg
invariant-loop-arg l = record {
  counted : l.count + length (int_args (drop l.arg-index l.args)) ≡ length (int_args l.args);
  fits : l.count ≤ l.arg-index;
}
