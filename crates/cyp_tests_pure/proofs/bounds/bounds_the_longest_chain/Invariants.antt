use Rattle.std.proofs.Common.{◌≡◌, length}
use Rattle.cyp_tests_pure.proofs.bounds.bounds_the_longest_chain.Given as goal

abbrev pub invariant-loop-i : goal.invariant-loop-i
invariant-loop-i g l = length l.bounds ≡ 33

abbrev pub invariant-loop-i-2 : goal.invariant-loop-i-2
invariant-loop-i-2 g l = length l.bounds ≡ 33
