use Rattle.std.proofs.Common.{◌≡◌, ◌++◌, ◌≤◌, drop}
use Rattle.cyp_pred.specs.Unfold.{bind_ints, int_args}
use Rattle.cyp_pred.proofs.bindings.bound_ints.Given as goal

abbrev pub invariant-loop-arg : goal.invariant-loop-arg
invariant-loop-arg l = record {
  made : l.binds.items ++ bind_ints l.number (int_args (drop l.arg-index l.args)) ≡ bind_ints 0 (int_args l.args);
  fits : l.number ≤ l.arg-index;
}
