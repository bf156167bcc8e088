use Rattle.std.proofs.Common.{ap, map, sym, ◌∙◌}
use Rattle.std.proofs.lemmas.Result.{on_ok_weaker}
use Rattle.cyp_writing.specs.PrintMarks.{with_marks}
use Rattle.cyp_writing.proofs.PrintTerms.{some_elems}
use Rattle.cyp_text.specs.Grammar.{braces_spelling}
use Rattle.cyp_writing.specs.PrintedTrees.{term_tree}
use Rattle.cyp_writing.proofs.printer.Printer.more_elems.Goals as goal

pub returns : goal.returns
returns c =
    on_ok_weaker c.braces.result
    (λ e. e
    ∙ ap (λ s. with_marks s (braces_spelling 0 (map term_tree c.args.elems.now))) c.in_ok-sign.ensures
    ∙ ap (with_marks c.args.self.now) (some_elems c.args.elems.now (sym c.is_empty.ensures ∙ c.if-is_empty.false)))
    c.braces.ensures
