use Rattle.std.proofs.Common.{◌≡◌, take}
use Rattle.cyp_term.specs.Terms.{term_eq, with_all_new}
use Rattle.cyp_pure.proofs.seen.add_terms.Given as goal

abbrev pub invariant-loop-term : goal.invariant-loop-term
invariant-loop-term l = l.terms.items ≡ with_all_new term_eq l.initial.terms.items (take l.term-index l.more)
