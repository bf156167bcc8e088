use Rattle.std.proofs.Common.{◌≡◌, drop}
use Rattle.std.specs.List.{flat_map, list_any}
use Rattle.cyp_term.specs.Terms.{var_in}
use Rattle.cyp_goal.proofs.touches.some_meets.Given as goal

abbrev pub invariant-loop-item : goal.invariant-loop-item
invariant-loop-item g l = list_any (λ v. var_in v l.table) (flat_map g.T.Occurs.occurring (drop l.item-index l.items)) ≡ list_any (λ v. var_in v l.table) (flat_map g.T.Occurs.occurring l.items)
