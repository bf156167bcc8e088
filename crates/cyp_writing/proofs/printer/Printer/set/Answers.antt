use Rattle.std.proofs.Common.{ap, arith, drop, get_or, length, sym, ◌++◌, ◌∙◌, ◌≡◌}
use Rattle.std.proofs.lemmas.Result.{on_ok_weaker}
use Rattle.cyp_lex.specs.Lexemes.{Symbol}
use Rattle.cyp_lex.specs.Spelling.{more_spelling}
use Rattle.cyp_lex.specs.declared.token.Sign.TheVariants.{TwoPluses}
use Rattle.cyp_writing.specs.PrintMarks.{with_marks}
use Rattle.cyp_writing.specs.PrintParts.{elem_marks, var_marks}
use Rattle.cyp_writing.proofs.PrintLists.{behind_first}
use Rattle.cyp_writing.proofs.PrintSteps.{both}
use Rattle.cyp_writing.proofs.PrintTerms.{no_vars, some_vars}
use Rattle.cyp_term.specs.declared.term.Sort.TheVariants.{Int}
use Rattle.cyp_term.specs.declared.term.Var.{Var}
use Rattle.cyp_writing.proofs.printer.Printer.set.Goals as goal

pub returns-in-empty : goal.returns-in-empty
returns-in-empty c =
    let vs = c.vars.result.now in
    let none : length vs ≡ 0 = omega arith in
    on_ok_weaker c.braces.result
    (λ e. e ∙ ap (with_marks c.args.self.now) (sym (no_vars c.args.set.now vs c.elems.result.now c.vars.ensures.vars c.elems.ensures none)))
    c.braces.ensures

pub returns-in_ok-more_vars-in-len1-up : goal.returns-in_ok-more_vars-in-len1-up
returns-in_ok-more_vars-in-len1-up c =
    let vs = c.vars.result.now in
    let ts = c.elems-in-len1-up.result.now in
    let first : Var = record { sort = Int; number = 0 } in
    let rest = more_spelling (Symbol TwoPluses) var_marks (drop 1 vs) in
    on_ok_weaker c.more_elems.result
    (λ e. both (var_marks (get_or vs 0 first)) (rest ++ elem_marks ts) c.args.self.now c.var.new.self c.more_elems.new.self c.in_ok-var-in-len1-up.ensures
    (both rest (elem_marks ts) c.var.new.self c.more_vars.new.self c.more_elems.new.self
    (c.in_ok-more_vars-in-len1-up.ensures ∙ ap (λ ws. with_marks c.var.new.self (more_spelling (Symbol TwoPluses) var_marks ws)) (behind_first vs))
    e)
    ∙ ap (with_marks c.args.self.now) (sym (some_vars c.args.set.now vs first ts c.vars.ensures.vars c.elems-in-len1-up.ensures c.in-len1-up.len_at_least)))
    c.more_elems.ensures
