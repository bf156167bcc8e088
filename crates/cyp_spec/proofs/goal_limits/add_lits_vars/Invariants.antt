use Rattle.std.proofs.Common.{◌++◌, ◌≡◌, drop, flat_map}
use Rattle.cyp_term.specs.Terms.{lit_vars}
use Rattle.cyp_spec.proofs.goal_limits.add_lits_vars.Given as goal

abbrev pub invariant-loop-lit : goal.invariant-loop-lit
invariant-loop-lit l = l.vars.items ++ flat_map lit_vars (drop l.lit-index l.lits) ≡ l.initial.vars.items ++ flat_map lit_vars l.lits
