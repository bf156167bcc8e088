use Rattle.std.proofs.Common.{ap, sym, ◌∙◌}
use Rattle.std.proofs.lemmas.Result.{on_ok_weaker}
use Rattle.cyp_lex.specs.Lexemes.{Symbol}
use Rattle.cyp_lex.specs.Spelling.{separated, sign}
use Rattle.cyp_lex.specs.declared.token.Sign.TheVariants.{AndAnd, Semicolon}
use Rattle.cyp_writing.specs.PrintMarks.{with_marks}
use Rattle.cyp_writing.specs.PrintParts.{lit_marks}
use Rattle.cyp_writing.proofs.PrintSteps.{then_one}
use Rattle.cyp_writing.proofs.PrintUnits.{pure_of}
use Rattle.cyp_writing.proofs.printer.Printer.pure.Goals as goal

pub returns : goal.returns
returns c =
    on_ok_weaker c.sign.result
    (λ e. then_one (separated (Symbol AndAnd) (lit_marks c.args.preds.now) c.args.lits.now) (sign Semicolon) c.args.self.now c.print_apart.new.to c.sign.new.self c.in_ok-print_apart.ensures e
    ∙ ap (with_marks c.args.self.now) (pure_of c.args.preds.now c.args.lits.now (sym c.is_empty.ensures ∙ c.if-is_empty.false)))
    c.sign.ensures
