use Rattle.std.proofs.Common.{◌≡◌, drop}
use Rattle.cyp_term.specs.Terms.{var_eq, with_all_new, without_repeats}
use Rattle.cyp_spec.proofs.goal_limits.different.Given as goal

abbrev pub invariant-loop-var : goal.invariant-loop-var
invariant-loop-var l = with_all_new var_eq l.found.items (drop l.var-index l.vars) ≡ without_repeats var_eq l.vars
