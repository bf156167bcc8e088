use Rattle.std.proofs.Common.{◌≡◌, ◌++◌, drop, false, length, map, take}
use Rattle.std.specs.List.{list_any}
use Rattle.cyp_goal.proofs.substitution.apply_all.Given as goal

abbrev pub invariant-loop-place : goal.invariant-loop-place
invariant-loop-place g l = record {
  same : take l.place l.items ++ map (g.T.Apply.applied l.by) (drop l.place l.items) ≡ map (g.T.Apply.applied l.by) l.fn.items;
  narrow : list_any g.T.Apply.is_wide (take l.place l.items) ≡ false;
  long : length l.items ≡ length l.fn.items;
}
