use Rattle.std.proofs.Common.{◌≡◌, take}
use Rattle.cyp_term.specs.Terms.{term_eq, with_all_new}
use Rattle.cyp_sets.proofs.gathering.with_terms.Given as goal

abbrev pub invariant-loop-term : goal.invariant-loop-term
invariant-loop-term l = l.terms.items ≡ with_all_new term_eq l.fn.terms.items (take l.term-index l.others)
