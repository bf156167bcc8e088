use Rattle.std.proofs.Common.{◌≡◌}
use Rattle.cyp_diff.specs.Relaxing.{lifted}
use Rattle.cyp_diff.proofs.Mapping.{mapped_to}
use Rattle.cyp_diff.proofs.bounds.lift.Given as goal

abbrev pub invariant-loop-k : goal.invariant-loop-k
invariant-loop-k l = l.out ≡ mapped_to lifted l.k l.row
