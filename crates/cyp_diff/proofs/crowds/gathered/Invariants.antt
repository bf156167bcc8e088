use Rattle.std.proofs.Common.{pos, ◌≤ℤ◌, ◌+◌}
use Rattle.cyp_diff.proofs.Crowding.{Gathers}
use Rattle.cyp_diff.proofs.crowds.gathered.Given as goal

abbrev pub invariant-loop-m : goal.invariant-loop-m
invariant-loop-m l = Gathers l.bounds l.gaps l.most l.kept l.count × (l.count ≤ℤ pos (l.m + 1))
