use Rattle.std.proofs.Common.{◌≡◌, drop}
use Rattle.std.specs.List.{flat_map, list_all}
use Rattle.cyp_goal.specs.Alive.{is_alive}
use Rattle.cyp_term.specs.Terms.{term_vars}
use Rattle.cyp_goal.proofs.pruning.are_terms_alive.Given as goal

abbrev pub invariant-loop-term : goal.invariant-loop-term
invariant-loop-term l = list_all (is_alive l.live l.dropped) (flat_map term_vars (drop l.term-index l.terms)) ≡ list_all (is_alive l.live l.dropped) (flat_map term_vars l.terms)
