use Rattle.std.proofs.Common.{◌≡◌, ◌-◌}
use Rattle.cyp_tree.specs.Sizes.{size}
use Rattle.cyp_search.specs.Frontiers.{IsFrontier}
use Rattle.cyp_search.specs.Reports.{report, report_from}
use Rattle.cyp_search.proofs.best_first.search.Given as goal

abbrev pub invariant-loop-expansions : goal.invariant-loop-expansions
invariant-loop-expansions g l = record {
  frontier : IsFrontier (g.S.Space.weight_of l.space) l.frontier.tree (size l.frontier.tree) l.frontier.queue.entries;
  same : report_from record { moves = g.S.Space.moves_of l.space; weight = g.S.Space.weight_of l.space } l.settings.nodes (l.settings.budget - l.expansions) l.expansions l.frontier.tree
      ≡ report record { moves = g.S.Space.moves_of l.space; weight = g.S.Space.weight_of l.space } l.settings.budget l.settings.nodes l.fn.root;
}
