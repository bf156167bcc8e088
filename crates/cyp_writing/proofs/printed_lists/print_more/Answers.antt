use Rattle.cyp_lex.specs.Lexemes.{Symbol}
use Rattle.cyp_writing.proofs.PrintLists.{more_step}
use Rattle.cyp_writing.proofs.printed_lists.print_more.Goals as goal

pub loop-item-preserved : goal.loop-item-preserved
loop-item-preserved g c =
    more_step (Symbol c.args.separator) (g.T.Print.spelling c.args.preds.now) c.args.items.now c.loop-item.item-index c.item-item.result c.args.to.now c.loop-item.to c.sign.new.self c.print.new.to
    c.loop-item-test.true c.item-item.is c.loop-item.invariant c.in_ok-sign.ensures c.in_ok-print.ensures
