use Rattle.std.proofs.Common.{◌≡◌, drop}
use Rattle.cyp_step.specs.FlatGoals.{lits_at}
use Rattle.cyp_step.proofs.framing.lits_at.Given as goal

abbrev pub invariant-loop-pair : goal.invariant-loop-pair
invariant-loop-pair l = lits_at l.place (drop l.pair-index l.pairs) ≡ lits_at l.place l.pairs
