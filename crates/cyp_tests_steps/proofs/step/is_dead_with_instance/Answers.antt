use Rattle.std.proofs.Common.{arith, subst, sym}
use Rattle.cyp_step.specs.Examples.{with_instance}
use Rattle.cyp_step.specs.NodeGoals.{IsGoalOfNode}
use Rattle.cyp_tests_steps.proofs.step.is_dead_with_instance.Goals as goal

instance_of_node : IsGoalOfNode with_instance
instance_of_node = record {
  pre_chunks = omega arith;
  post_chunks = omega arith;
  pure_pre = omega arith;
  pure_post = omega arith;
  program = omega arith;
  numbers = omega arith;
  sets = omega arith;
  elements = omega arith;
}

pub dead-requires : goal.dead-requires
dead-requires c = subst IsGoalOfNode (sym c.in_ok-goal.ensures) instance_of_node
