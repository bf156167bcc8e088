use Rattle.std.proofs.Common.{◌≡◌, drop, filter, slice_get}
use Rattle.cyp_term.specs.Terms.{var_in}
use Rattle.cyp_step.proofs.existentials.first_exist.Given as goal

abbrev pub invariant-loop-var : goal.invariant-loop-var
invariant-loop-var l =
    slice_get (filter (λ v. var_in v l.goal.exist) (drop l.var-index l.var-items)) 0 ≡ slice_get (filter (λ v. var_in v l.goal.exist) l.var-items) 0
