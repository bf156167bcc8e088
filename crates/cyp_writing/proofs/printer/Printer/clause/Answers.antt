use Rattle.std.proofs.Common.{ap, ◌++◌, ◌∙◌, ◌∷◌}
use Rattle.std.proofs.lemmas.Result.{on_ok_weaker}
use Rattle.cyp_lex.specs.Spelling.{sign}
use Rattle.cyp_lex.specs.declared.token.Sign.TheVariants.{Implies}
use Rattle.cyp_writing.specs.PrintMarks.{with_marks}
use Rattle.cyp_writing.specs.PrintParts.{lit_marks}
use Rattle.cyp_writing.proofs.PrintSteps.{both}
use Rattle.cyp_text.specs.Grammar.{in_braces}
use Rattle.cyp_writing.specs.PrintedTrees.{body_tree}
use Rattle.cyp_writing.proofs.printer.Printer.clause.Goals as goal

pub returns : goal.returns
returns c =
    let k = c.args.clause.now in
    let preds = c.args.preds.now in
    let guard = lit_marks preds k.guard in
    let body = in_braces (body_tree preds k.lits k.heap.chunks) in
    on_ok_weaker c.body.result
    (λ e. both guard (sign Implies ∷ body) c.sign.new.self c.print.new.to c.body.new.self c.in_ok-print.ensures
    (e
    ∙ ap (λ ls. with_marks c.sign-2.new.self (in_braces (body_tree preds ls c.chunks.result.now))) c.as_slice.ensures
    ∙ ap (λ cs. with_marks c.sign-2.new.self (in_braces (body_tree preds k.lits cs))) c.chunks.ensures.chunks
    ∙ ap (λ s. with_marks s body) c.in_ok-sign-2.ensures)
    ∙ ap (λ s. with_marks s (guard ++ (sign Implies ∷ body))) c.in_ok-sign.ensures)
    c.body.ensures
