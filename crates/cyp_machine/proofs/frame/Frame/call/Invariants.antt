use Rattle.std.proofs.Common.{map, take, ◌≡◌}
use Rattle.cyp_machine.specs.Values.{expr_value}
use Rattle.cyp_machine.proofs.frame.Frame.call.Given as goal

abbrev pub invariant-loop-arg : goal.invariant-loop-arg
invariant-loop-arg l = l.values.items ≡ map (expr_value l.self.values.items) (take l.arg-index l.args)
