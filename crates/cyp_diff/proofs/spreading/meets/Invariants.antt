use Rattle.std.proofs.Common.{ℕ, ◌<◌}
use Rattle.cyp_diff.specs.Solution.{at}
use Rattle.cyp_diff.specs.Spreading.{MeetsFrom}
use Rattle.cyp_diff.proofs.spreading.meets.Given as goal

abbrev pub invariant-loop-i : goal.invariant-loop-i
invariant-loop-i l = (k : ℕ) → k < l.i → MeetsFrom (at l.xs) k l.bounds
