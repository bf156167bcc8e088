use Rattle.std.proofs.Common.{◌≡◌, take}
use Rattle.std.specs.List.{flat_map}
use Rattle.cyp_term.specs.Terms.{lit_vars, var_eq, with_all_new}
use Rattle.cyp_pure.proofs.limits.add_all_vars.Given as goal

abbrev pub invariant-loop-lit : goal.invariant-loop-lit
invariant-loop-lit l = l.vars.items ≡ with_all_new var_eq l.initial.vars.items (flat_map lit_vars (take l.lit-index l.lits))
