use Rattle.std.proofs.Common.{ap, map, ◌++◌, ◌∙◌, ◌∷◌, ◌≡◌}
use Rattle.std.proofs.lemmas.Result.{on_ok_weaker}
use Rattle.cyp_lex.specs.Spelling.{ident, word}
use Rattle.cyp_lex.specs.declared.token.Word.TheVariants.{Void}
use Rattle.cyp_writing.specs.PrintMarks.{with_marks}
use Rattle.cyp_writing.proofs.PrintLines.{line_written}
use Rattle.cyp_writing.proofs.PrintSteps.{both, headed}
use Rattle.cyp_text.specs.Grammar.{in_braces, params_spelling}
use Rattle.cyp_writing.specs.PrintedTrees.{body_tree, ident_of, param_tree}
use Rattle.cyp_writing.proofs.printer.Printer.proc_line.Goals as goal

pub returns : goal.returns
returns c =
    let g = c.args.goal.now in
    let preds = c.args.preds.now in
    let name = ident (ident_of c.args.name.now) in
    let params = params_spelling (map param_tree g.program) in
    let pre = in_braces (body_tree preds g.pure_pre g.pre.chunks) in
    let post = in_braces (body_tree preds g.pure_post g.post.chunks) in
    let by_params : c.params.new.self ≡ with_marks c.name.new.self params =
    c.in_ok-params.ensures ∙ ap (λ vs. with_marks c.name.new.self (params_spelling (map param_tree vs))) c.as_slice.ensures in
    let by_pre : c.body.new.self ≡ with_marks c.params.new.self pre =
    c.in_ok-body.ensures
    ∙ ap (λ ls. with_marks c.params.new.self (in_braces (body_tree preds ls c.chunks.result.now))) c.as_slice-2.ensures
    ∙ ap (λ cs. with_marks c.params.new.self (in_braces (body_tree preds g.pure_pre cs))) c.chunks.ensures.chunks in
    let by_post : c.body-2.new.self ≡ with_marks c.body.new.self post =
    c.in_ok-body-2.ensures
    ∙ ap (λ ls. with_marks c.body.new.self (in_braces (body_tree preds ls c.chunks-2.result.now))) c.as_slice-3.ensures
    ∙ ap (λ cs. with_marks c.body.new.self (in_braces (body_tree preds g.pure_post cs))) c.chunks-2.ensures.chunks in
    on_ok_weaker c.end_line.result
    (λ e. line_written c.args.self.now c.body-2.new.self c.end_line.new.self (word Void ∷ name ∷ (params ++ (pre ++ post))) c.requires
    (headed (word Void) name (params ++ (pre ++ post)) c.args.self.now c.word.new.self c.name.new.self c.body-2.new.self c.in_ok-word.ensures c.in_ok-name.ensures
    (both params (pre ++ post) c.name.new.self c.params.new.self c.body-2.new.self by_params (both pre post c.params.new.self c.body.new.self c.body-2.new.self by_pre by_post)))
    e)
    c.end_line.ensures
