use Rattle.std.proofs.Common.{ℕ, ◌<◌, ◌<ℤ◌}
use Rattle.cyp_diff.specs.Distances.{Within, distance, none}
use Rattle.cyp_diff.specs.Solution.{at}
use Rattle.cyp_diff.proofs.spreading.meets_from.Given as goal

abbrev pub invariant-loop-j : goal.invariant-loop-j
invariant-loop-j l = (k : ℕ) → k < l.j → distance l.bounds l.i k <ℤ none → Within (at l.xs) l.i k (distance l.bounds l.i k)
