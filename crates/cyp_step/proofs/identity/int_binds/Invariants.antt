use Rattle.std.proofs.Common.{◌≡◌, ◌++◌, drop, filter, map, not}
use Rattle.cyp_step.specs.UnfoldParts.{same_int}
use Rattle.cyp_term.specs.Terms.{is_set_var}
use Rattle.cyp_step.proofs.identity.int_binds.Given as goal

abbrev pub invariant-loop-var : goal.invariant-loop-var
invariant-loop-var l =
    l.binds.items ++ map same_int (filter (λ v. not (is_set_var v)) (drop l.var-index l.vars)) ≡ map same_int (filter (λ v. not (is_set_var v)) l.vars)
