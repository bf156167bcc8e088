use Rattle.std.proofs.Common.{◌≡◌, ◌++◌, drop}
use Rattle.std.specs.List.{list_any}
use Rattle.cyp_term.specs.Terms.{wide_term}
use Rattle.cyp_term.proofs.lit.add_terms.Given as goal

abbrev pub invariant-loop-term : goal.invariant-loop-term
invariant-loop-term l =
    record {
      items : l.terms.items ++ drop l.term-index l.more ≡ l.initial.terms.items ++ l.more;
      narrow : list_any wide_term l.more ≡ list_any wide_term (drop l.term-index l.more);
    }
