use Rattle.std.proofs.Common.{◌≡◌, ◌++◌, replicate}
use Rattle.cyp_measure.proofs.numbers.add_zeros.Given as goal

abbrev pub invariant-loop-place : goal.invariant-loop-place
invariant-loop-place l = l.numbers.items ≡ l.fn.numbers.items ++ replicate l._place 0
