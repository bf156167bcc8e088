use Rattle.std.proofs.Common.{◌++◌, ◌≡◌, drop, flat_map}
use Rattle.cyp_term.specs.Terms.{lit_elements}
use Rattle.cyp_spec.proofs.elements.add_lits_elements.Given as goal

abbrev pub invariant-loop-lit : goal.invariant-loop-lit
invariant-loop-lit l = l.terms.items ++ flat_map lit_elements (drop l.lit-index l.lits) ≡ l.initial.terms.items ++ flat_map lit_elements l.lits
