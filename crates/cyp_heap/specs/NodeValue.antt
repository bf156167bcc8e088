use Rattle.std.specs.Prelude.{List}
use Rattle.cyp_heap.specs.PredsValue.{PredsValue}
use Rattle.cyp_heap.specs.declared.goal.Goal.{Goal}
use Rattle.cyp_heap.specs.declared.goal.Link.{Link}

-- a goal with its predicates and the companions above it, the oldest first
pub record NodeValue : Type 0 where
  pub preds : PredsValue
  pub goal : Goal
  pub links : List Link
