use Rattle.std.proofs.Common.{◌≡◌, ◌++◌, drop}
use Rattle.cyp_goal.specs.Facts.{all_apart}
use Rattle.cyp_goal.proofs.goal_facts.add_all_apart.Given as goal

abbrev pub invariant-loop-k : goal.invariant-loop-k
invariant-loop-k l = l.lits.items ++ all_apart (drop l.k l.addresses) ≡ l.initial.lits.items ++ all_apart l.addresses
