use Rattle.std.proofs.Common.{◌≡◌, ◌∙◌, ap}
use Rattle.std.proofs.lemmas.Result.{IfOk-weaker}
use Rattle.cyp_heap.specs.declared.goal.Goal.{Goal}
use Rattle.cyp_print.specs.Lines.{next_numbers}
use Rattle.cyp_print.proofs.NamesKept.{numbers_given}
use Rattle.cyp_print.proofs.names.next_numbers.Goals as goal

pub returns : goal.returns
returns c =
    let program = c.as_slice.ensures ∙ ap (λ (g : Goal). g.program) c.goal.ensures.goal in
    let given = numbers_given c.args.node.now c.args.rule.now c.args.numbers.now c.args.new c.requires.named c.as_slice.result.now c.as_slice-2.result.now c.unnamed_number.result in
    IfOk-weaker c.numbers_of.result _ (λ ns. ns.items ≡ next_numbers c.args.node.now c.args.rule.now c.args.numbers.now c.args.new)
    (λ ns e. given ns.items program (c.as_slice-2.ensures ∙ c.in_ok-old.ensures) c.unnamed_number.ensures e) c.numbers_of.ensures
