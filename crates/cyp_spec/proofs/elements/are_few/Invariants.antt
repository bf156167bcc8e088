use Rattle.std.proofs.Common.{◌≡◌, ◌≤◌, length, drop}
use Rattle.cyp_term.specs.Terms.{term_eq, with_all_new, without_repeats}
use Rattle.cyp_spec.proofs.elements.are_few.Given as goal

abbrev pub invariant-loop-term : goal.invariant-loop-term
invariant-loop-term l = record {
  made : with_all_new term_eq l.found.items (drop l.term-index l.terms) ≡ without_repeats term_eq l.terms;
  few : length l.found.items ≤ l.most;
}
