use Rattle.std.proofs.Common.{◌≡◌, drop, filter}
use Rattle.cyp_heap.specs.Goals.{node_vars}
use Rattle.cyp_step.proofs.OuterVars.{is_outer}
use Rattle.cyp_term.specs.Terms.{var_eq, with_all_new}
use Rattle.cyp_step.proofs.identity.outer_vars.Given as goal

abbrev pub invariant-loop-place : goal.invariant-loop-place
invariant-loop-place l =
    with_all_new var_eq l.vars.items (filter (is_outer l.exist) (drop l.place l.all)) ≡ filter (is_outer l.node.goal.exist) (node_vars l.node)
