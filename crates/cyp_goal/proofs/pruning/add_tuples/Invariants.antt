use Rattle.std.proofs.Common.{◌≡◌, drop}
use Rattle.cyp_heap.specs.Goals.{tuple_vars}
use Rattle.cyp_term.specs.Terms.{var_eq, with_all_new}
use Rattle.cyp_goal.proofs.pruning.add_tuples.Given as goal

abbrev pub invariant-loop-link : goal.invariant-loop-link
invariant-loop-link l = with_all_new var_eq l.table (tuple_vars (drop l.link-index l.links)) ≡ with_all_new var_eq l.initial.table (tuple_vars l.links)
