use Rattle.std.proofs.Common.{IfOk, subst, ◌≡◌}
use Rattle.cyp_step.proofs.CallTests.{callable_in}
use Rattle.cyp_step.proofs.callable.is_callable.Goals as goal

pub returns : goal.returns
returns c =
    subst (λ x. IfOk c.is_lower.result (λ b. b ≡ x))
    (callable_in c.args.node.now c.args.link.now c.args.found.now c.goal-goal.result.now c.get.result.now c.as_slice.result.now c.are_exprs.result c.in_ok-held.held c.in_ok-stored.stored
    c.goal-goal.ensures.goal c.get.ensures c.as_slice.ensures c.are_exprs.ensures c.if-not-are_exprs.false c.in_ok-held.ensures c.if-not-held.false c.in_ok-stored.ensures
    c.if-not-stored.false)
    c.is_lower.ensures
