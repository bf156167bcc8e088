use Rattle.std.proofs.Common.{◌≡◌, ◌==◌, drop, length}
use Rattle.std.specs.List.{flat_map}
use Rattle.cyp_goal.proofs.touches.are_closed.Given as goal

abbrev pub invariant-loop-item : goal.invariant-loop-item
invariant-loop-item g l = (length (flat_map g.T.Occurs.occurring (drop l.item-index l.items)) == 0) ≡ (length (flat_map g.T.Occurs.occurring l.items) == 0)
