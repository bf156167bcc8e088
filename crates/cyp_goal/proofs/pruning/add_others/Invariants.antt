use Rattle.std.proofs.Common.{◌≡◌, drop, not}
use Rattle.std.specs.List.{filter}
use Rattle.cyp_term.specs.Terms.{var_eq, var_in, with_all_new}
use Rattle.cyp_term.specs.declared.term.Var.{Var}
use Rattle.cyp_goal.proofs.pruning.add_others.Given as goal

abbrev pub invariant-loop-var : goal.invariant-loop-var
invariant-loop-var l =
    with_all_new var_eq l.dropped (filter (λ (v : Var). not (var_in v l.table)) (drop l.var-index l.vars)) ≡ with_all_new var_eq l.initial.dropped (filter (λ (v : Var). not (var_in v l.table)) l.vars)
