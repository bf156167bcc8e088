use Rattle.std.proofs.Common.{◌≤◌, length}
use Rattle.cyp_tests_search.proofs.tree.moves.Given as goal

abbrev pub invariant-loop-way : goal.invariant-loop-way
invariant-loop-way l = length l.alts.items ≤ l.way
