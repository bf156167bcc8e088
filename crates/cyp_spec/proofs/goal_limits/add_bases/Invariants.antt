use Rattle.std.proofs.Common.{◌++◌, ◌≡◌, drop, flat_map}
use Rattle.cyp_term.specs.Terms.{term_vars}
use Rattle.cyp_spec.proofs.goal_limits.add_bases.Given as goal

abbrev pub invariant-loop-term : goal.invariant-loop-term
invariant-loop-term l = l.vars.items ++ flat_map (λ t. term_vars t) (drop l.term-index l.terms) ≡ l.initial.vars.items ++ flat_map (λ t. term_vars t) l.terms
