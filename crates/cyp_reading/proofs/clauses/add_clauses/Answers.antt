use Rattle.cyp_reading.proofs.Appended.{map_turn}
use Rattle.cyp_names.specs.Specifications.{read_clause}
use Rattle.cyp_reading.proofs.clauses.add_clauses.Goals as goal

pub loop-tree-preserved : goal.loop-tree-preserved
loop-tree-preserved c =
    map_turn (read_clause c.args.preds.now c.args.params.now) c.args.trees.now c.loop-tree.tree-index c.tree-item.result _ _ _ _
    c.loop-tree-test.true c.tree-item.is c.in_ok-read_clause.ensures c.in_ok-push.ensures.items c.loop-tree.invariant
