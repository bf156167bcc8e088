use Rattle.std.proofs.Common.{◌≡◌, ◌++◌, drop}
use Rattle.std.specs.List.{flat_map}
use Rattle.cyp_goal.specs.Facts.{apart}
use Rattle.cyp_goal.proofs.goal_facts.add_apart_from.Given as goal

abbrev pub invariant-loop-other : goal.invariant-loop-other
invariant-loop-other l = l.lits.items ++ flat_map (apart l.a) (drop l.other-index l.others) ≡ l.initial.lits.items ++ flat_map (apart l.a) l.others
