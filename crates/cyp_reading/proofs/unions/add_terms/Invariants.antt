use Rattle.std.proofs.Common.{◌≡◌, drop, map}
use Rattle.cyp_term.specs.Terms.{term_eq, with_all_new}
use Rattle.cyp_names.specs.ReadTerms.{read_int}
use Rattle.cyp_reading.proofs.unions.add_terms.Given as goal

abbrev pub invariant-loop-term : goal.invariant-loop-term
invariant-loop-term l = with_all_new term_eq l.elems.items (map (read_int l.scope) (drop l.term-index l.terms)) ≡ with_all_new term_eq l.initial.elems.items (map (read_int l.scope) l.terms)
