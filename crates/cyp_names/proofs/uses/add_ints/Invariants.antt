use Rattle.std.proofs.Common.{◌≡◌, ◌++◌, drop, flat_map}
use Rattle.cyp_names.specs.Uses.{int_uses}
use Rattle.cyp_names.proofs.uses.add_ints.Given as goal

abbrev pub invariant-loop-term : goal.invariant-loop-term
invariant-loop-term l = l.uses.items ++ flat_map int_uses (drop l.term-index l.terms) ≡ l.initial.uses.items ++ flat_map int_uses l.terms
