use Rattle.std.proofs.Common.{◌<◌, length}
use Rattle.cyp_sets.proofs.dealing.hardest.Given as goal

abbrev pub invariant-loop-place : goal.invariant-loop-place
invariant-loop-place l = l.best < length l.wants
