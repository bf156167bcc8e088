use Rattle.std.proofs.Common.{ℕ, IsTrue, false, get_or}
use Rattle.cyp_diff.specs.Crowds.{AreNear}
use Rattle.cyp_diff.proofs.crowds.nearer.Given as goal

abbrev pub invariant-loop-v : goal.invariant-loop-v
invariant-loop-v l = (v : ℕ) → IsTrue (get_or l.out v false) → IsTrue (get_or l.kept v false) × AreNear l.bounds l.gaps l.most l.m v
