use Rattle.std.proofs.Common.{IfOk, subst, ◌≡◌}
use Rattle.cyp_step.proofs.FlatFits.{left_fits, write_fits}
use Rattle.cyp_step.proofs.FlatLeft.{write_done}
use Rattle.cyp_step.proofs.flat_rules.write.Goals as goal

pub left-requires : goal.left-requires
left-requires c =
    left_fits c.args.node.now c.goal.result.now c.in_ok-goal.goal _ c.goal.ensures.keeps c.goal.ensures.goal c.in_ok-goal.ensures
    (λ h. write_fits c.args.node.now.preds c.goal.result.now h c.args.place _ _)

pub returns : goal.returns
returns c =
    subst (λ x. IfOk c.left.result (λ r. r ≡ x))
    (write_done c.args.node.now c.goal.result.now c.args.place c.in_ok-goal.goal c.goal.ensures.goal c.in_ok-goal.ensures) c.left.ensures
