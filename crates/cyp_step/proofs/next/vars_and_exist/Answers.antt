use Rattle.std.proofs.Common.{ap, ◌∙◌, ◌++◌}
use Rattle.cyp_heap.specs.declared.goal.Goal.{Goal}
use Rattle.cyp_step.proofs.NextNumbers.{vars_low}
use Rattle.cyp_step.proofs.next.vars_and_exist.Goals as goal

pub returns-clause-low : goal.returns-clause-low
returns-clause-low c =
    vars_low c.args.node.now c.extend_from_slice.new.self.items c.goal.ensures.keeps
    (c.in_ok-extend_from_slice.ensures.items ∙ (λ i. c.in_ok-vars.ensures i ++ (c.as_slice.ensures ∙ ap (λ (g : Goal). g.exist) c.goal.ensures.goal) i))
