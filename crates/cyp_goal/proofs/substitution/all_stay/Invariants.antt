use Rattle.std.proofs.Common.{◌≡◌, false, map, take}
use Rattle.std.specs.List.{list_any}
use Rattle.cyp_goal.proofs.substitution.all_stay.Given as goal

abbrev pub invariant-loop-item : goal.invariant-loop-item
invariant-loop-item g l = record {
  same : map (g.T.Apply.applied l.by) (take l.item-index l.items) ≡ take l.item-index l.items;
  narrow : list_any g.T.Apply.is_wide (take l.item-index l.items) ≡ false;
}
