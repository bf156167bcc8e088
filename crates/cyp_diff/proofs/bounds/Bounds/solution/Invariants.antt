use Rattle.std.proofs.Common.{◌≡◌, take, map}
use Rattle.cyp_diff.proofs.Solving.{row_least}
use Rattle.cyp_diff.proofs.bounds.Bounds.solution.Given as goal

abbrev pub invariant-loop-row : goal.invariant-loop-row
invariant-loop-row l = l.xs.items ≡ map row_least (take l.row-index l.row-items)
