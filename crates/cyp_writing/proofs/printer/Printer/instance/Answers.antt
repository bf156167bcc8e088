use Rattle.std.proofs.Common.{[], ap, map, ◌++◌, ◌∙◌, ◌∷◌}
use Rattle.std.proofs.lemmas.Result.{on_ok_weaker}
use Rattle.cyp_lex.specs.Lexemes.{Symbol}
use Rattle.cyp_lex.specs.Spelling.{separated, sign}
use Rattle.cyp_lex.specs.declared.token.Sign.TheVariants.{Comma, LeftParen, RightParen}
use Rattle.cyp_writing.specs.PrintMarks.{with_marks}
use Rattle.cyp_writing.specs.PrintParts.{arg_marks}
use Rattle.cyp_writing.proofs.PrintSteps.{enclosed}
use Rattle.cyp_writing.proofs.PrintUnits.{instance_of}
use Rattle.cyp_text.specs.Grammar.{arg_spelling}
use Rattle.cyp_writing.specs.PrintedTrees.{arg_tree}
use Rattle.cyp_writing.proofs.printer.Printer.instance.Goals as goal

pub returns : goal.returns
returns c =
    let i = c.args.inst.now in
    on_ok_weaker c.sign-2.result
    (λ e. enclosed (sign LeftParen) (sign RightParen) (separated (Symbol Comma) (arg_marks c.args.preds.now) i.args) c.pred_name.new.self c.sign.new.self c.print_apart.new.to c.sign-2.new.self
    c.in_ok-sign.ensures
    (c.in_ok-print_apart.ensures ∙ ap (λ xs. with_marks c.sign.new.self (separated (Symbol Comma) (arg_marks c.args.preds.now) xs)) c.as_slice.ensures)
    e
    ∙ ap (with_marks c.pred_name.new.self) (instance_of c.args.preds.now i.args)
    ∙ ap (λ p. with_marks p (sign LeftParen ∷ (separated (Symbol Comma) arg_spelling (map arg_tree i.args) ++ sign RightParen ∷ []))) c.in_ok-pred_name.ensures)
    c.sign-2.ensures
