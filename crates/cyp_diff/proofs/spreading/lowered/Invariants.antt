use Rattle.std.proofs.Common.{◌≡◌, length}
use Rattle.std.specs.List.{All}
use Rattle.cyp_diff.specs.Solution.{IsLow}
use Rattle.cyp_diff.proofs.spreading.lowered.Given as goal

abbrev pub invariant-loop-i : goal.invariant-loop-i
invariant-loop-i l = record {
  long : length l.ys.items ≡ l.i;
  low : All IsLow l.ys.items;
}
