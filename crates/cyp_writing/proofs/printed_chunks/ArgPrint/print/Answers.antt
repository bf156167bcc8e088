use Rattle.std.proofs.Common.{ap, sym, ◌∙◌}
use Rattle.std.proofs.lemmas.Result.{on_ok_weaker}
use Rattle.cyp_writing.specs.PrintMarks.{with_marks}
use Rattle.cyp_writing.proofs.PrintTerms.{union_argument}
use Rattle.cyp_writing.specs.PrintedTrees.{parts_of}
use Rattle.cyp_writing.proofs.printed_chunks.ArgPrint.print.Goals as goal

pub returns-in-Set : goal.returns-in-Set
returns-in-Set c =
    rw c.in-Set.is (on_ok_weaker c.set.result (λ e. e ∙ ap (with_marks c.args.to.now) (sym (union_argument (parts_of c.in-Set.set)))) c.set.ensures)
