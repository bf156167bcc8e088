use Rattle.std.proofs.Common.{◌≡◌, drop}
use Rattle.std.specs.List.{list_all}
use Rattle.cyp_step.specs.Mends.{is_writable}
use Rattle.cyp_step.proofs.mends.are_writable.Given as goal

abbrev pub invariant-loop-mend : goal.invariant-loop-mend
invariant-loop-mend l = list_all (is_writable l.goal) (drop l.mend-index l.mends) ≡ list_all (is_writable l.goal) l.mends
