use Rattle.std.proofs.Common.{◌≡◌, take}
use Rattle.std.specs.List.{flat_map}
use Rattle.cyp_term.specs.Terms.{term_vars, var_eq, with_all_new}
use Rattle.cyp_pure.proofs.seen.add_bases.Given as goal

abbrev pub invariant-loop-term : goal.invariant-loop-term
invariant-loop-term l = l.vars.items ≡ with_all_new var_eq l.initial.vars.items (flat_map term_vars (take l.term-index l.terms))
