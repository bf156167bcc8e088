use Rattle.std.proofs.Common.{◌≡◌, ◌+◌, ◌++◌, ◌-◌}
use Rattle.cyp_pred.proofs.Tagged.{new_below}
use Rattle.cyp_pred.proofs.subinstances.add_all_below.Given as goal

abbrev pub invariant-loop-k : goal.invariant-loop-k
invariant-loop-k l = l.lits.items ++ new_below l.above 0 (l.first + l.k) (l.count - l.k) ≡ l.initial.lits.items ++ new_below l.above 0 l.first l.count
