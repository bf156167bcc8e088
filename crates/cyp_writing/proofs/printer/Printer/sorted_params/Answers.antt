use Rattle.std.proofs.Common.{[], ap, map, ◌∙◌}
use Rattle.std.proofs.lemmas.Result.{on_ok_weaker}
use Rattle.cyp_lex.specs.Lexemes.{Symbol}
use Rattle.cyp_lex.specs.Spelling.{separated, sign}
use Rattle.cyp_lex.specs.declared.token.Sign.TheVariants.{Comma, LeftParen, RightParen}
use Rattle.cyp_writing.specs.PrintMarks.{with_marks}
use Rattle.cyp_writing.specs.PrintParts.{numbered_marks, param_of}
use Rattle.cyp_writing.specs.PrintedTrees.{params_from}
use Rattle.cyp_writing.proofs.PrintSteps.{enclosed}
use Rattle.cyp_writing.proofs.PrintUnits.{numbered_of}
use Rattle.cyp_writing.proofs.printer.Printer.sorted_params.Goals as goal

pub returns : goal.returns
returns c =
    let vs = params_from [] c.args.sorts.now in
    on_ok_weaker c.sign-2.result
    (λ e. enclosed (sign LeftParen) (sign RightParen) (separated (Symbol Comma) numbered_marks (map param_of vs)) c.args.self.now c.sign.new.self c.print_apart.new.to c.sign-2.new.self
    c.in_ok-sign.ensures
    (c.in_ok-print_apart.ensures ∙ ap (λ ps. with_marks c.sign.new.self (separated (Symbol Comma) numbered_marks ps)) (c.as_slice.ensures.value ∙ c.in_ok-params.ensures))
    e
    ∙ ap (with_marks c.args.self.now) (numbered_of vs))
    c.sign-2.ensures
