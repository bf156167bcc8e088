use Rattle.std.proofs.Common.{◌≡◌, get_or}
use Rattle.cyp_diff.specs.Distances.{none}
use Rattle.cyp_diff.specs.Solution.{least}
use Rattle.cyp_diff.proofs.bounds.least_of.Given as goal

abbrev pub invariant-loop-k : goal.invariant-loop-k
invariant-loop-k l = l.low ≡ least (λ k. get_or l.row k none) l.k
