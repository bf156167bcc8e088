use Rattle.std.proofs.Common.{IfOk, subst, ◌≡◌}
use Rattle.cyp_step.proofs.FlatFits.{few_chunks, frame_fits, left_fits}
use Rattle.cyp_step.proofs.FrameLeft.{frame_done}
use Rattle.cyp_step.specs.FlatGoals.{lits_at}
use Rattle.cyp_unify.specs.Frames.{frame_pairs}
use Rattle.cyp_step.proofs.flat_rules.frame.Goals as goal

pub left-requires : goal.left-requires
left-requires c =
    left_fits c.args.node.now c.goal.result.now c.in_ok-goal.goal _ c.goal.ensures.keeps c.goal.ensures.goal c.in_ok-goal.ensures
    (λ h. frame_fits c.args.node.now.preds c.goal.result.now h c.args.place (lits_at c.args.place (frame_pairs c.goal.result.now)))

pub returns : goal.returns
returns c =
    subst (λ x. IfOk c.left.result (λ r. r ≡ x))
    (frame_done c.args.node.now c.goal.result.now c.args.place c.in_ok-goal.goal c.goal.ensures.goal c.in_ok-goal.ensures) c.left.ensures

pub after_frame-requires : goal.after_frame-requires
after_frame-requires c = few_chunks c.args.node.now c.goal.result.now c.goal.ensures.keeps c.goal.ensures.goal
