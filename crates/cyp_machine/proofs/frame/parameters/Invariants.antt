use Rattle.std.proofs.Common.{take, ◌≡◌}
use Rattle.cyp_machine.specs.Values.{params_from}
use Rattle.cyp_machine.proofs.frame.parameters.Given as goal

abbrev pub invariant-loop-i : goal.invariant-loop-i
invariant-loop-i l = l.values.items ≡ params_from 1 (take l.i l.args)
