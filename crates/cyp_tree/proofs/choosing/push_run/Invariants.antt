use Rattle.std.proofs.Common.{◌≡◌, ◌++◌, ◌+◌, ◌-◌}
use Rattle.cyp_tree.specs.Numbers.{run_from}
use Rattle.cyp_tree.proofs.choosing.push_run.Given as goal

abbrev pub invariant-loop-number : goal.invariant-loop-number
invariant-loop-number l =
    l.numbers.items ++ run_from l.number (l.fn.run.first + l.fn.run.count - l.number) ≡ l.fn.numbers.items ++ run_from l.fn.run.first l.fn.run.count
