use Rattle.std.proofs.Common.{◌≡◌, ◌+◌, ◌++◌, ◌-◌}
use Rattle.cyp_pred.proofs.Bound.{new_set_binds}
use Rattle.cyp_pred.proofs.bindings.add_new_sets.Given as goal

abbrev pub invariant-loop-k : goal.invariant-loop-k
invariant-loop-k l = l.binds.items ++ new_set_binds (l.number + l.k) (l.first + l.k) (l.count - l.k) ≡ l.initial.binds.items ++ new_set_binds l.number l.first l.count
