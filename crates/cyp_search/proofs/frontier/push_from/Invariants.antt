use Rattle.std.proofs.Common.{◌≤◌}
use Rattle.cyp_tree.specs.Sizes.{size}
use Rattle.cyp_search.specs.Frontiers.{IsFrontier}
use Rattle.cyp_search.proofs.frontier.push_from.Given as goal

abbrev pub invariant-loop-number : goal.invariant-loop-number
invariant-loop-number g l = record { frontier : IsFrontier (g.S.Space.weight_of l.space) l.tree l.number l.queue.entries; below : l.number ≤ size l.tree }
