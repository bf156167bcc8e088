use Rattle.std.proofs.Common.{ap, ◌∙◌}
use Rattle.std.proofs.lemmas.Result.{on_ok_weaker}
use Rattle.cyp_lex.specs.Lexemes.{Symbol}
use Rattle.cyp_lex.specs.Spelling.{separated, sign}
use Rattle.cyp_lex.specs.declared.token.Sign.TheVariants.{Comma, LeftParen, RightParen}
use Rattle.cyp_writing.specs.PrintMarks.{with_marks}
use Rattle.cyp_writing.specs.PrintParts.{param_marks}
use Rattle.cyp_writing.proofs.PrintSteps.{enclosed}
use Rattle.cyp_writing.proofs.PrintUnits.{params_of}
use Rattle.cyp_writing.proofs.printer.Printer.params.Goals as goal

pub returns : goal.returns
returns c =
    on_ok_weaker c.sign-2.result
    (λ e. enclosed (sign LeftParen) (sign RightParen) (separated (Symbol Comma) (param_marks c.args.preds.now) c.args.vars.now) c.args.self.now c.sign.new.self c.print_apart.new.to c.sign-2.new.self
    c.in_ok-sign.ensures c.in_ok-print_apart.ensures e
    ∙ ap (with_marks c.args.self.now) (params_of c.args.preds.now c.args.vars.now))
    c.sign-2.ensures
