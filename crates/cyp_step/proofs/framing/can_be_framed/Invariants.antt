use Rattle.std.proofs.Common.{◌≡◌, drop}
use Rattle.cyp_step.specs.FlatGoals.{can_be_framed}
use Rattle.cyp_step.proofs.framing.can_be_framed.Given as goal

abbrev pub invariant-loop-lit : goal.invariant-loop-lit
invariant-loop-lit l = can_be_framed l.goal (drop l.lit-index l.lits) ≡ can_be_framed l.goal l.lits
