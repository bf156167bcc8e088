use Rattle.std.proofs.Common.{IfOk, subst, ◌≡◌}
use Rattle.cyp_step.proofs.FlatFits.{few_chunks, free_fits, left_fits}
use Rattle.cyp_step.proofs.FlatLeft.{free_done}
use Rattle.cyp_step.proofs.flat_rules.free.Goals as goal

pub left-requires : goal.left-requires
left-requires c =
    left_fits c.args.node.now c.goal.result.now c.in_ok-goal.goal _ c.goal.ensures.keeps c.goal.ensures.goal c.in_ok-goal.ensures
    (λ h. free_fits c.args.node.now.preds c.goal.result.now h c.args.place _)

pub returns : goal.returns
returns c =
    subst (λ x. IfOk c.left.result (λ r. r ≡ x))
    (free_done c.args.node.now c.goal.result.now c.args.place c.in_ok-goal.goal c.goal.ensures.goal c.in_ok-goal.ensures) c.left.ensures

pub after_free-requires : goal.after_free-requires
after_free-requires c = few_chunks c.args.node.now c.goal.result.now c.goal.ensures.keeps c.goal.ensures.goal
