use Rattle.std.proofs.Common.{◌≡◌, drop}
use Rattle.std.specs.List.{flat_map}
use Rattle.cyp_term.specs.Terms.{var_eq, with_all_new}
use Rattle.cyp_goal.proofs.occurs.add_all.Given as goal

abbrev pub invariant-loop-item : goal.invariant-loop-item
invariant-loop-item g l = with_all_new var_eq l.table (flat_map g.T.Occurs.occurring (drop l.item-index l.items)) ≡ with_all_new var_eq l.initial.table (flat_map g.T.Occurs.occurring l.items)
