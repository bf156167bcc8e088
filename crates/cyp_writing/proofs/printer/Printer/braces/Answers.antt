use Rattle.std.proofs.Common.{ap, ◌∙◌}
use Rattle.std.proofs.lemmas.Result.{on_ok_weaker}
use Rattle.cyp_lex.specs.Lexemes.{Symbol}
use Rattle.cyp_lex.specs.Spelling.{At, separated, sign}
use Rattle.cyp_lex.specs.declared.token.Sign.TheVariants.{Comma, LeftBrace, RightBrace}
use Rattle.cyp_writing.specs.PrintMarks.{with_marks}
use Rattle.cyp_writing.specs.PrintParts.{term_marks}
use Rattle.cyp_writing.proofs.PrintSteps.{enclosed}
use Rattle.cyp_writing.proofs.PrintTerms.{braces_spelled}
use Rattle.cyp_writing.proofs.printer.Printer.braces.Goals as goal

pub returns : goal.returns
returns c =
    on_ok_weaker c.sign-2.result
    (λ e. enclosed (At (Symbol LeftBrace) 0) (sign RightBrace) (separated (Symbol Comma) (term_marks c.args.preds.now) c.args.elems.now) c.args.self.now c.sign.new.self c.print_apart.new.to c.sign-2.new.self
    c.in_ok-sign.ensures c.in_ok-print_apart.ensures e
    ∙ ap (with_marks c.args.self.now) (braces_spelled c.args.preds.now c.args.elems.now))
    c.sign-2.ensures
