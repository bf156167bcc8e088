use Rattle.std.proofs.Common.{◌≡◌, drop}
use Rattle.std.specs.List.{flat_map, list_any}
use Rattle.cyp_term.specs.Terms.{term_vars, var_in}
use Rattle.cyp_step.proofs.existentials.some_have_exist.Given as goal

abbrev pub invariant-loop-term : goal.invariant-loop-term
invariant-loop-term l =
    list_any (λ v. var_in v l.goal.exist) (flat_map term_vars (drop l.term-index l.terms)) ≡ list_any (λ v. var_in v l.goal.exist) (flat_map term_vars l.terms)
