use Rattle.std.proofs.lemmas.Result.{on_ok_weaker}
use Rattle.cyp_lex.specs.Lexemes.{Symbol}
use Rattle.cyp_writing.proofs.PrintLists.{apart_ends}
use Rattle.cyp_writing.proofs.printed_lists.print_apart.Goals as goal

pub returns-in_ok-print-in-len1-up : goal.returns-in_ok-print-in-len1-up
returns-in_ok-print-in-len1-up g c =
    on_ok_weaker c.print_more.result
    (λ e. apart_ends (Symbol c.args.separator) (g.T.Print.spelling c.args.preds.now) c.args.items.now c.first-item.result c.args.to.now c.print.new.to c.print_more.new.to
    c.in-len1-up.len_at_least c.first-item.is c.in_ok-print-in-len1-up.ensures e)
    c.print_more.ensures
