use Rattle.std.proofs.Common.{◌≡◌, drop}
use Rattle.std.specs.List.{list_all}
use Rattle.cyp_step.specs.Shown.{is_program_expr}
use Rattle.cyp_term.specs.Terms.{apply_term, var_term}
use Rattle.cyp_step.proofs.callable.are_exprs.Given as goal

abbrev pub invariant-loop-var : goal.invariant-loop-var
invariant-loop-var l =
    list_all (λ v. is_program_expr l.goal (apply_term l.by (var_term v))) (drop l.var-index l.vars)
    ≡ list_all (λ v. is_program_expr l.goal (apply_term l.by (var_term v))) l.vars
