use Rattle.std.proofs.Common.{ap, sym, ◌∙◌}
use Rattle.std.proofs.lemmas.Result.{on_ok_weaker}
use Rattle.cyp_writing.specs.PrintMarks.{with_marks}
use Rattle.cyp_writing.proofs.PrintUnits.{heap_of}
use Rattle.cyp_writing.proofs.printer.Printer.heap.Goals as goal

pub returns : goal.returns
returns c =
    on_ok_weaker c.print_apart.result
    (λ e. e ∙ ap (with_marks c.args.self.now) (heap_of c.args.preds.now c.args.chunks.now (sym c.is_empty.ensures ∙ c.if-is_empty.false)))
    c.print_apart.ensures
