use Rattle.std.proofs.lemmas.Result.{on_ok_weaker}
use Rattle.cyp_lex.specs.Spelling.{sign}
use Rattle.cyp_writing.specs.PrintParts.{set_marks}
use Rattle.cyp_writing.proofs.PrintSteps.{between}
use Rattle.cyp_writing.proofs.printer.Printer.sets_compared.Goals as goal

pub returns : goal.returns
returns c =
    on_ok_weaker c.set-2.result
    (λ e. between (set_marks c.args.a.now) (set_marks c.args.b.now) (sign c.args.between) c.args.self.now c.set.new.self c.sign.new.self c.set-2.new.self c.in_ok-set.ensures c.in_ok-sign.ensures e)
    c.set-2.ensures
