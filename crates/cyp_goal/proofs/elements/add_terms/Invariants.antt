use Rattle.std.proofs.Common.{◌≡◌, drop}
use Rattle.cyp_goal.specs.Counting.{with_all_few}
use Rattle.cyp_goal.proofs.elements.add_terms.Given as goal

abbrev pub invariant-loop-term : goal.invariant-loop-term
invariant-loop-term l = with_all_few l.found.items (drop l.term-index l.terms) ≡ with_all_few l.initial.found.items l.terms
