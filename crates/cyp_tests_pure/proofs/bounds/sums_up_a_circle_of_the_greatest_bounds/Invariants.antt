use Rattle.std.proofs.Common.{◌≡◌, length}
use Rattle.cyp_tests_pure.proofs.bounds.sums_up_a_circle_of_the_greatest_bounds.Given as goal

abbrev pub invariant-loop-i : goal.invariant-loop-i
invariant-loop-i g l = length l.bounds ≡ 33

abbrev pub invariant-loop-i-2 : goal.invariant-loop-i-2
invariant-loop-i-2 g l = length l.bounds ≡ 33
