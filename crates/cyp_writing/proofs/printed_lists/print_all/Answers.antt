use Rattle.cyp_writing.proofs.PrintLists.{all_step}
use Rattle.cyp_writing.proofs.printed_lists.print_all.Goals as goal

pub loop-item-preserved : goal.loop-item-preserved
loop-item-preserved g c =
    all_step (g.T.Print.spelling c.args.preds.now) c.args.items.now c.loop-item.item-index c.item-item.result c.args.to.now c.loop-item.to c.print.new.to
    c.loop-item-test.true c.item-item.is c.loop-item.invariant c.in_ok-print.ensures
