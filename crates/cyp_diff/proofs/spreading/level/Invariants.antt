use Rattle.std.proofs.Common.{◌≤◌}
use Rattle.cyp_diff.proofs.spreading.level.Given as goal

abbrev pub invariant-loop-k : goal.invariant-loop-k
invariant-loop-k l = record {
  counted : l.below ≤ l.k;
  met : l.with ≤ l.k;
}
