use Rattle.std.proofs.Common.{◌≡◌, ◌++◌, ◌≤◌, drop}
use Rattle.cyp_pred.specs.Unfold.{bind_sets, set_args}
use Rattle.cyp_pred.proofs.bindings.bound_sets.Given as goal

abbrev pub invariant-loop-arg : goal.invariant-loop-arg
invariant-loop-arg l = record {
  made : l.binds.items ++ bind_sets l.number (set_args (drop l.arg-index l.args)) ≡ bind_sets 0 (set_args l.args);
  fits : l.number ≤ l.arg-index;
}
