use Rattle.std.proofs.Common.{◌≡◌, drop}
use Rattle.cyp_goal.specs.Pruning.{spread}
use Rattle.cyp_goal.proofs.pruning.spread.Given as goal

abbrev pub invariant-loop-lit : goal.invariant-loop-lit
invariant-loop-lit l = spread (drop l.lit-index l.lits) l.live ≡ spread l.lits l.initial.live
