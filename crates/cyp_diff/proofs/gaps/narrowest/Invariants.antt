use Rattle.std.proofs.Common.{◌<◌, length}
use Rattle.cyp_diff.proofs.gaps.narrowest.Given as goal

abbrev pub invariant-loop-k : goal.invariant-loop-k
invariant-loop-k l = l.best < length l.gaps
