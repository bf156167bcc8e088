use Rattle.cyp_step.proofs.TriedRules.{goal_is_of_node}
use Rattle.cyp_step.proofs.rows.has_dead.Goals as goal

pub dead-requires : goal.dead-requires
dead-requires c = goal_is_of_node c.get.result.now c.goal.result.now c.goal.ensures.keeps c.goal.ensures.goal
