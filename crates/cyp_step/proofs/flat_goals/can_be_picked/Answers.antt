use Rattle.std.proofs.Common.{IfOk, subst, ◌≡◌}
use Rattle.cyp_step.proofs.GoalsMade.{with_an_instance, without_instances}
use Rattle.cyp_step.specs.FlatRules.{is_universal}
use Rattle.cyp_step.proofs.flat_goals.can_be_picked.Goals as goal

pub returns-then-has_inst : goal.returns-then-has_inst
returns-then-has_inst c =
    with_an_instance c.args.goal.now.post.chunks c.chunks.result.now c.has_inst.result (is_universal c.args.goal.now c.args.sort c.args.var) c.chunks.ensures.chunks c.has_inst.ensures c.if-has_inst.true

pub returns : goal.returns
returns c =
    subst (λ x. IfOk c.is_universal.result (λ b. b ≡ x))
    (without_instances c.args.goal.now.post.chunks c.chunks.result.now c.has_inst.result (is_universal c.args.goal.now c.args.sort c.args.var) c.chunks.ensures.chunks c.has_inst.ensures c.if-has_inst.false)
    c.is_universal.ensures
