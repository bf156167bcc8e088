use Rattle.std.proofs.Common.{get_or}
use Rattle.std.proofs.lemmas.List.{get_or_default}
use Rattle.cyp_lex.specs.Lexemes.{Symbol}
use Rattle.cyp_lex.specs.declared.token.Sign.TheVariants.{TwoPluses}
use Rattle.cyp_writing.specs.PrintParts.{var_marks}
use Rattle.cyp_writing.proofs.PrintLists.{more_step}
use Rattle.cyp_term.specs.declared.term.Sort.TheVariants.{Int}
use Rattle.cyp_term.specs.declared.term.Var.{Var}
use Rattle.cyp_writing.proofs.printer.Printer.more_vars.Goals as goal

pub loop-var-preserved : goal.loop-var-preserved
loop-var-preserved c =
    let vars = c.args.vars.now in
    let i = c.loop-var.var-index in
    let first : Var = record { sort = Int; number = 0 } in
    let v : Var = get_or vars i first in
    more_step (Symbol TwoPluses) var_marks vars i v c.args.self.now c.loop-var.self c.sign.new.self c.var.new.self
    c.loop-var-test.true (get_or_default vars i first v c.loop-var-test.true) c.loop-var.invariant c.in_ok-sign.ensures c.in_ok-var.ensures
