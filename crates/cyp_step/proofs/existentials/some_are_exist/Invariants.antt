use Rattle.std.proofs.Common.{◌≡◌, drop}
use Rattle.std.specs.List.{list_any}
use Rattle.cyp_term.specs.Terms.{var_in}
use Rattle.cyp_step.proofs.existentials.some_are_exist.Given as goal

abbrev pub invariant-loop-var : goal.invariant-loop-var
invariant-loop-var l = list_any (λ v. var_in v l.goal.exist) (drop l.var-index l.vars) ≡ list_any (λ v. var_in v l.goal.exist) l.vars
