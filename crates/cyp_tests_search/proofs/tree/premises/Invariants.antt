use Rattle.std.proofs.Common.{◌≤◌, length}
use Rattle.cyp_tests_search.proofs.tree.premises.Given as goal

abbrev pub invariant-loop-number : goal.invariant-loop-number
invariant-loop-number l = length l.premises.items ≤ l.number
