use Rattle.std.proofs.Common.{◌≡◌, drop}
use Rattle.std.specs.List.{flat_map}
use Rattle.cyp_goal.specs.Named.{link_vars}
use Rattle.cyp_term.specs.Terms.{var_eq, with_all_new}
use Rattle.cyp_goal.proofs.numbering.add_links.Given as goal

abbrev pub invariant-loop-link : goal.invariant-loop-link
invariant-loop-link l = with_all_new var_eq l.table (flat_map link_vars (drop l.link-index l.links)) ≡ with_all_new var_eq l.initial.table (flat_map link_vars l.links)
