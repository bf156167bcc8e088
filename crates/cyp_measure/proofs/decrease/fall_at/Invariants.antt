use Rattle.std.proofs.Common.{◌≡◌, ◌++◌, ◌-◌, drop}
use Rattle.cyp_measure.specs.Decrease.{falls_at}
use Rattle.cyp_measure.proofs.decrease.fall_at.Given as goal

abbrev pub invariant-loop-before : goal.invariant-loop-before
invariant-loop-before l = l.lits.items ++ falls_at (l.fn.place - l.before) (drop l.before l.old) (drop l.before l.new) ≡ falls_at l.fn.place l.old l.new
