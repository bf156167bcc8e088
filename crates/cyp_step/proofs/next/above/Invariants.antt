use Rattle.std.proofs.Common.{◌≡◌, ◌≤◌, drop, max}
use Rattle.cyp_step.specs.Changes.{above}
use Rattle.cyp_step.proofs.next.above.Given as goal

abbrev pub invariant-loop-var : goal.invariant-loop-var
invariant-loop-var l = (max l.next (above l.sort (drop l.var-index l.vars)) ≡ above l.sort l.vars) × (l.next ≤ 32)
