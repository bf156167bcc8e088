use Rattle.std.proofs.Common.{◌≡◌, ◌++◌, drop}
use Rattle.std.specs.List.{flat_map}
use Rattle.cyp_step.proofs.occurs.add_all.Given as goal

abbrev pub invariant-loop-item : goal.invariant-loop-item
invariant-loop-item g l = l.vars.items ++ flat_map g.T.Occurs.occurring (drop l.item-index l.items) ≡ l.initial.vars.items ++ flat_map g.T.Occurs.occurring l.items
