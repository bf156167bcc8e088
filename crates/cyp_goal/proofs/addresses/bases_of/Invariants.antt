use Rattle.std.proofs.Common.{◌≡◌, drop}
use Rattle.std.specs.List.{flat_map}
use Rattle.cyp_term.specs.Terms.{term_vars, var_eq, with_all_new, without_repeats}
use Rattle.cyp_goal.proofs.addresses.bases_of.Given as goal

abbrev pub invariant-loop-term : goal.invariant-loop-term
invariant-loop-term l = with_all_new var_eq l.bases.items (flat_map term_vars (drop l.term-index l.terms)) ≡ without_repeats var_eq (flat_map term_vars l.terms)
