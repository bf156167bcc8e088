use Rattle.cyp_goal.proofs.FewTerms.{few_item}
use Rattle.cyp_goal.proofs.elements.add_all_elements.Goals as goal

pub loop-item-preserved : goal.loop-item-preserved
loop-item-preserved g c =
    few_item g.T.HasElements.elements c.args.items.now c.loop-item.item-index c.item-item.result c.loop-item.found.items c.add_elements.new.found.items _ c.loop-item.invariant c.loop-item-test.true
    c.item-item.is c.in_ok-add_elements.ensures
