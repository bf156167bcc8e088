use Rattle.std.proofs.Common.{◌≡◌, flat_map, take}
use Rattle.cyp_term.specs.Regions.{lit_set_vars}
use Rattle.cyp_term.specs.Terms.{var_eq, with_all_new}
use Rattle.cyp_sets.proofs.gathering.with_all_vars.Given as goal

abbrev pub invariant-loop-lit : goal.invariant-loop-lit
invariant-loop-lit l = l.vars.items ≡ with_all_new var_eq l.fn.vars.items (flat_map lit_set_vars (take l.lit-index l.lits))
