use Rattle.std.proofs.Common.{subst, sym}
use Rattle.cyp_step.proofs.GoalOfNode.{goal_of_node}
use Rattle.cyp_step.specs.NodeGoals.{IsGoalOfNode}
use Rattle.cyp_step.proofs.flat_rules.inconsistent.Goals as goal

pub can_hold-requires : goal.can_hold-requires
can_hold-requires c = subst IsGoalOfNode (sym c.goal.ensures.goal) (goal_of_node c.args.node.now c.goal.ensures.keeps.within)
