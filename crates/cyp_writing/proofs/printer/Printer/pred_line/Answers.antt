use Rattle.std.proofs.Common.{[], ap, map, sym, ◌++◌, ◌∙◌, ◌∷◌, ◌≡◌}
use Rattle.std.proofs.lemmas.Result.{on_ok_weaker}
use Rattle.cyp_lex.specs.Lexemes.{Name}
use Rattle.cyp_lex.specs.Spelling.{all_spelling, ident, sign, word}
use Rattle.cyp_lex.specs.declared.token.Sign.TheVariants.{LeftBrace, RightBrace}
use Rattle.cyp_lex.specs.declared.token.Word.TheVariants.{Predicate}
use Rattle.cyp_writing.specs.PrintMarks.{with_marks, with_said}
use Rattle.cyp_writing.specs.PrintParts.{clause_marks}
use Rattle.cyp_writing.proofs.PrintLines.{line_written}
use Rattle.cyp_writing.proofs.PrintLists.{all_map}
use Rattle.cyp_writing.proofs.PrintSteps.{both, enclosed, headed}
use Rattle.cyp_text.specs.Grammar.{clause_spelling, params_spelling}
use Rattle.cyp_writing.specs.PrintedTrees.{clause_tree, ident_of, param_tree, params_from}
use Rattle.cyp_writing.proofs.printer.Printer.pred_line.Goals as goal

pub returns : goal.returns
returns c =
    let q = c.args.pred.now in
    let preds = c.args.preds.now in
    let name = ident (ident_of q.name) in
    let params = params_spelling (map param_tree (params_from [] q.params)) in
    let clauses = all_spelling clause_spelling (map (clause_tree preds) q.clauses) in
    let braces = sign LeftBrace ∷ (clauses ++ sign RightBrace ∷ []) in
    let by_name : c.name.new.self ≡ with_said c.word.new.self (Name q.name) =
    c.in_ok-name.ensures ∙ ap (λ bs. with_said c.word.new.self (Name bs)) c.as_slice.ensures in
    let by_params : c.sorted_params.new.self ≡ with_marks c.name.new.self params =
    c.in_ok-sorted_params.ensures ∙ ap (λ ss. with_marks c.name.new.self (params_spelling (map param_tree (params_from [] ss)))) c.as_slice-2.ensures in
    let by_clauses : c.print_all.new.to ≡ with_marks c.sign.new.self clauses =
    c.in_ok-print_all.ensures
    ∙ ap (λ cs. with_marks c.sign.new.self (all_spelling (clause_marks preds) cs)) c.as_slice-3.ensures
    ∙ ap (with_marks c.sign.new.self) (sym (all_map (clause_tree preds) clause_spelling q.clauses)) in
    let by_braces : c.sign-2.new.self ≡ with_marks c.sorted_params.new.self braces =
    enclosed (sign LeftBrace) (sign RightBrace) clauses c.sorted_params.new.self c.sign.new.self c.print_all.new.to c.sign-2.new.self c.in_ok-sign.ensures by_clauses c.in_ok-sign-2.ensures in
    on_ok_weaker c.end_line.result
    (λ e. line_written c.args.self.now c.sign-2.new.self c.end_line.new.self (word Predicate ∷ name ∷ (params ++ braces)) c.requires
    (headed (word Predicate) name (params ++ braces) c.args.self.now c.word.new.self c.name.new.self c.sign-2.new.self c.in_ok-word.ensures by_name
    (both params braces c.name.new.self c.sorted_params.new.self c.sign-2.new.self by_params by_braces))
    e)
    c.end_line.ensures
