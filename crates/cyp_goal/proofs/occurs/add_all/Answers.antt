use Rattle.cyp_goal.proofs.Occurring.{added_item}
use Rattle.cyp_goal.proofs.occurs.add_all.Goals as goal

pub loop-item-preserved : goal.loop-item-preserved
loop-item-preserved g c =
    added_item g.T.Occurs.occurring c.args.items.now c.loop-item.item-index c.item-item.result c.loop-item.table c.add_to.new.table _ c.loop-item.invariant c.loop-item-test.true c.item-item.is c.add_to.ensures
