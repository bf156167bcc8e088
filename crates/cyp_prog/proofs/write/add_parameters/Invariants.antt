use Rattle.std.proofs.Common.{◌≡◌, ◌++◌, ◌-◌}
use Rattle.cyp_prog.proofs.Listing.{parameters_from}
use Rattle.cyp_prog.proofs.write.add_parameters.Given as goal

abbrev pub invariant-loop-place : goal.invariant-loop-place
invariant-loop-place l = l.text.items ++ parameters_from l.place (l.count - l.place) ≡ l.initial.text.items ++ parameters_from 0 l.count
