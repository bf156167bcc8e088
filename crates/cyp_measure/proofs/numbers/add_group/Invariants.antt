use Rattle.std.proofs.Common.{◌≡◌, ◌++◌, ◌∷◌, [], drop}
use Rattle.cyp_measure.proofs.numbers.add_group.Given as goal

abbrev pub invariant-loop-number : goal.invariant-loop-number
invariant-loop-number l = l.numbers.items ++ drop l.number-index l.tuple ≡ (l.fn.numbers.items ++ 0 ∷ []) ++ l.tuple
