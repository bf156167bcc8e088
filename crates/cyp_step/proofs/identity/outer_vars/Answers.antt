use Rattle.std.proofs.Common.{ap, ◌∙◌}
use Rattle.cyp_heap.specs.declared.goal.Goal.{Goal}
use Rattle.cyp_step.proofs.OuterVars.{outer_start, outer_at}
use Rattle.cyp_step.proofs.identity.outer_vars.Goals as goal

pub loop-place-init : goal.loop-place-init
loop-place-init c =
    outer_start c.as_slice-exist.result.now c.args.node.now c.new-vars.result.items c.as_slice-all.result.now c.new-vars.ensures.items
    (c.as_slice-exist.ensures ∙ ap (λ (g : Goal). g.exist) c.goal.ensures.goal) (c.as_slice-all.ensures.value ∙ c.in_ok-found.ensures)

pub loop-place-preserved : goal.loop-place-preserved
loop-place-preserved c =
    outer_at c.as_slice-exist.result.now c.loop-place.vars.items c.add_outer.new.vars.items c.as_slice-all.result.now _ c.loop-place.place _
    c.loop-place.invariant c.loop-place-test.true c.in_ok-add_outer.ensures
