use Rattle.std.proofs.Common.{◌≡◌}
use Rattle.std.specs.VecDeque.Iter.{deque_iter_rest}
use Rattle.cyp_machine.specs.Values.{lookup}
use Rattle.cyp_machine.proofs.frame.value_of.Given as goal

abbrev pub invariant-loop-number : goal.invariant-loop-number
invariant-loop-number l = lookup l.values.items l.variable ≡ lookup (deque_iter_rest l.number-iterator) l.variable
