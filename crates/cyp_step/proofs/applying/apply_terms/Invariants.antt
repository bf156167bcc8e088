use Rattle.std.proofs.Common.{◌≡◌, false, map, take}
use Rattle.std.specs.List.{list_any}
use Rattle.cyp_term.specs.Terms.{apply_term, wide_term}
use Rattle.cyp_step.proofs.applying.apply_terms.Given as goal

abbrev pub invariant-loop-term : goal.invariant-loop-term
invariant-loop-term l = record {
  made : l.applied.items ≡ map (apply_term l.by) (take l.term-index l.terms);
  narrow : list_any wide_term (map (apply_term l.by) (take l.term-index l.terms)) ≡ false;
}
