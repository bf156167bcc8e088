use Rattle.std.proofs.Common.{◌≡◌, ◌&&◌, ◌++◌, Bool, None, drop, int_le, map, pos}
use Rattle.std.specs.List.{filter}
use Rattle.cyp_goal.specs.Tidying.{above_zero}
use Rattle.cyp_term.specs.Terms.{base_eq}
use Rattle.cyp_term.specs.declared.term.Term.{Term}
use Rattle.cyp_goal.proofs.addresses.add_numbers.Given as goal

abbrev pub invariant-loop-term : goal.invariant-loop-term
invariant-loop-term l =
    let test : Term → Bool = λ t. base_eq t.base None && int_le t.offset (pos 0) in
    l.lits.items ++ map above_zero (filter test (drop l.term-index l.terms)) ≡ l.initial.lits.items ++ map above_zero (filter test l.terms)
