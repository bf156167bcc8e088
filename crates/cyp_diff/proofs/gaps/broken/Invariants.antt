use Rattle.std.proofs.Common.{ℕ, ◌<◌, get_or}
use Rattle.cyp_diff.specs.declared.gaps.Gap.{Gap}
use Rattle.cyp_diff.specs.Gaps.{Apart}
use Rattle.cyp_diff.specs.Solution.{at}
use Rattle.cyp_diff.proofs.gaps.broken.Given as goal

abbrev pub invariant-loop-k : goal.invariant-loop-k
invariant-loop-k l = (m : ℕ) (d : Gap) → m < l.k → Apart (at l.xs) (get_or l.gaps m d)
