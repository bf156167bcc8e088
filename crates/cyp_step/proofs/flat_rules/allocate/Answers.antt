use Rattle.std.proofs.Common.{IfOk, slice_get, subst, ◌≡◌}
use Rattle.cyp_step.proofs.AllocLeft.{alloc_done}
use Rattle.cyp_step.proofs.FlatFits.{alloc_fits, left_fits}
use Rattle.cyp_step.specs.FlatGoals.{block_in}
use Rattle.cyp_step.proofs.flat_rules.allocate.Goals as goal

pub left-requires : goal.left-requires
left-requires c =
    left_fits c.args.node.now c.goal.result.now c.in_ok-goal.goal _ c.goal.ensures.keeps c.goal.ensures.goal c.in_ok-goal.ensures
    (λ h. alloc_fits c.args.node.now.preds c.goal.result.now h c.in_ok-var.var (block_in (slice_get c.goal.result.now.post.chunks 0)))

pub returns : goal.returns
returns c =
    subst (λ x. IfOk c.left.result (λ r. r ≡ x))
    (alloc_done c.args.node.now c.goal.result.now c.in_ok-var.var c.in_ok-goal.goal c.goal.ensures.goal c.in_ok-var.ensures.value c.in_ok-goal.ensures) c.left.ensures
