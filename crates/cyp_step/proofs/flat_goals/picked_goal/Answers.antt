use Rattle.cyp_step.proofs.GoalsMade.{post_lit_made}
use Rattle.cyp_step.specs.FlatRules.{equal_vars}
use Rattle.cyp_step.proofs.flat_goals.picked_goal.Goals as goal

pub returns : goal.returns
returns c =
    post_lit_made c.args.goal.now c.in_ok-picked.picked c.in_ok-lit.lit (equal_vars c.args.exist c.args.var) c.push.new.self c.in_ok-picked.ensures c.in_ok-lit.ensures c.in_ok-push.ensures.ok
