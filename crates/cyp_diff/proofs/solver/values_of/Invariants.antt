use Rattle.std.proofs.Common.{◌≡◌, take}
use Rattle.cyp_diff.specs.Solution.{at}
use Rattle.cyp_diff.specs.Solving.{values_from}
use Rattle.cyp_diff.proofs.solver.values_of.Given as goal

abbrev pub invariant-loop-k : goal.invariant-loop-k
invariant-loop-k l = l.values.items ≡ values_from (at l.xs) (take l.k l.vars) 1
