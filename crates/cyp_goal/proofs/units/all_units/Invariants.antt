use Rattle.std.proofs.Common.{◌≡◌, take, sum_by}
use Rattle.cyp_goal.specs.Counting.{capped}
use Rattle.cyp_goal.proofs.units.all_units.Given as goal

abbrev pub invariant-loop-item : goal.invariant-loop-item
invariant-loop-item g l = l.units ≡ capped (sum_by g.T.Measured.measure (take l.item-index l.items))
