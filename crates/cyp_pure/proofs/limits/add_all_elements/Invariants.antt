use Rattle.std.proofs.Common.{◌≡◌, take}
use Rattle.std.specs.List.{flat_map}
use Rattle.cyp_term.specs.Terms.{lit_elements, term_eq, with_all_new}
use Rattle.cyp_pure.proofs.limits.add_all_elements.Given as goal

abbrev pub invariant-loop-lit : goal.invariant-loop-lit
invariant-loop-lit l = l.terms.items ≡ with_all_new term_eq l.initial.terms.items (flat_map lit_elements (take l.lit-index l.lits))
