use Rattle.std.proofs.Common.{subst, sym}
use Rattle.cyp_step.proofs.GoalOfNode.{goal_of_node}
use Rattle.cyp_step.specs.NodeGoals.{IsGoalOfNode}
use Rattle.cyp_tests_steps.proofs.step.is_dead.Goals as goal

pub dead-requires : goal.dead-requires
dead-requires c = subst IsGoalOfNode (sym c.goal.ensures.goal) (goal_of_node c.args.node.now c.goal.ensures.keeps.within)
