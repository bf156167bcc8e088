use Rattle.std.proofs.Common.{◌≡◌, take}
use Rattle.cyp_measure.specs.Decrease.{decreases}
use Rattle.cyp_measure.proofs.decrease.decreases.Given as goal

abbrev pub invariant-loop-place : goal.invariant-loop-place
invariant-loop-place l = l.ways.items ≡ take l.place (decreases l.old l.new)
