use Rattle.std.proofs.Common.{◌≡◌, ◌++◌, ◌+◌, ◌-◌}
use Rattle.cyp_pred.specs.Unfold.{count_from}
use Rattle.cyp_print.proofs.names.parameter_numbers.Given as goal

abbrev pub invariant-loop-number : goal.invariant-loop-number
invariant-loop-number l = l.numbers.items ++ count_from (l.number + 1) (l.count - l.number) ≡ count_from 1 l.count
