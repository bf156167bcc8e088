use Rattle.std.proofs.Common.{◌≡◌, ◌++◌, drop, map}
use Rattle.cyp_step.specs.declared.rule.Rule.TheVariants.{ByOpen}
use Rattle.cyp_unfold.proofs.OpenTurns.{openings_from}
use Rattle.cyp_unfold.specs.UnfoldRows.{openable}
use Rattle.cyp_unfold.proofs.opens.openings.Given as goal

abbrev pub invariant-loop-place : goal.invariant-loop-place
invariant-loop-place l = l.rules.items ++ openings_from l.limit l.place (drop l.place l.chunks) ≡ map ByOpen (openable l.limit 0 l.chunks)
