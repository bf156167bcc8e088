use Rattle.std.proofs.Common.{◌≡◌, flat_map, take}
use Rattle.cyp_term.specs.Regions.{elem_terms}
use Rattle.cyp_term.specs.Terms.{term_eq, with_all_new}
use Rattle.cyp_sets.proofs.gathering.with_all_terms.Given as goal

abbrev pub invariant-loop-lit : goal.invariant-loop-lit
invariant-loop-lit l = l.terms.items ≡ with_all_new term_eq l.fn.terms.items (flat_map elem_terms (take l.lit-index l.lits))
