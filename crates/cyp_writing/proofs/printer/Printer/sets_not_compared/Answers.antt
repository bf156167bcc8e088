use Rattle.std.proofs.Common.{◌++◌, ◌∷◌}
use Rattle.std.proofs.lemmas.Result.{on_ok_weaker}
use Rattle.cyp_lex.specs.Spelling.{sign}
use Rattle.cyp_writing.specs.PrintParts.{set_marks}
use Rattle.cyp_writing.proofs.PrintUnits.{negated}
use Rattle.cyp_writing.proofs.printer.Printer.sets_not_compared.Goals as goal

pub returns : goal.returns
returns c =
    on_ok_weaker c.sign.result
    (λ e. negated (set_marks c.args.a.now ++ (sign c.args.between ∷ set_marks c.args.b.now)) c.args.self.now c.open_negation.new.self c.sets_compared.new.self c.sign.new.self
    c.in_ok-open_negation.ensures c.in_ok-sets_compared.ensures e)
    c.sign.ensures
