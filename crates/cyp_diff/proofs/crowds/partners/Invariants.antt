use Rattle.std.proofs.Common.{ℕ, IsTrue, false, get_or}
use Rattle.cyp_diff.specs.Crowds.{AreDifferent}
use Rattle.cyp_diff.proofs.crowds.partners.Given as goal

abbrev pub invariant-loop-k : goal.invariant-loop-k
invariant-loop-k l = (v : ℕ) → IsTrue (get_or l.out v false) → AreDifferent l.gaps l.m v
