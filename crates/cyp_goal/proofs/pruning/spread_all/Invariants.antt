use Rattle.std.proofs.Common.{◌≡◌, ◌-◌, length}
use Rattle.cyp_goal.specs.Pruning.{spread_times}
use Rattle.cyp_goal.proofs.pruning.spread_all.Given as goal

abbrev pub invariant-loop-turn : goal.invariant-loop-turn
invariant-loop-turn l = spread_times (length l.lits - l._turn) l.lits l.live ≡ spread_times (length l.lits) l.lits l.initial.live
