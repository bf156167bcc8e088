use Rattle.std.proofs.Common.{◌++◌, ◌≡◌, drop, flat_map}
use Rattle.cyp_heap.specs.Chunks.{arg_vars}
use Rattle.cyp_spec.proofs.goal_limits.add_args_vars.Given as goal

abbrev pub invariant-loop-arg : goal.invariant-loop-arg
invariant-loop-arg l = l.vars.items ++ flat_map arg_vars (drop l.arg-index l.args) ≡ l.initial.vars.items ++ flat_map arg_vars l.args
