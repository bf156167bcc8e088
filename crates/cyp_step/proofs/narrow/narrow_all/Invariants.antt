use Rattle.std.proofs.Common.{◌≡◌, false, take}
use Rattle.std.specs.List.{list_any}
use Rattle.cyp_step.proofs.narrow.narrow_all.Given as goal

abbrev pub invariant-loop-item : goal.invariant-loop-item
invariant-loop-item g l = list_any g.T.Narrow.is_wide (take l.item-index l.items) ≡ false
