use Rattle.std.proofs.Common.{◌≡◌, ◌++◌, drop, filter}
use Rattle.cyp_step.specs.Mends.{is_needed}
use Rattle.cyp_step.proofs.mends.needed.Given as goal

abbrev pub invariant-loop-mend : goal.invariant-loop-mend
invariant-loop-mend l = l.kept.items ++ filter (is_needed l.goal) (drop l.mend-index l.mends) ≡ filter (is_needed l.goal) l.mends
