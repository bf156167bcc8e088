use Rattle.std.proofs.Common.{◌≡◌, drop, flat_map}
use Rattle.cyp_term.specs.Terms.{var_eq, with_all_new}
use Rattle.cyp_names.specs.ReadTerms.{part_vars}
use Rattle.cyp_reading.proofs.unions.add_vars.Given as goal

abbrev pub invariant-loop-part : goal.invariant-loop-part
invariant-loop-part l = with_all_new var_eq l.vars.items (flat_map (part_vars l.scope) (drop l.part-index l.parts)) ≡ with_all_new var_eq l.initial.vars.items (flat_map (part_vars l.scope) l.parts)
