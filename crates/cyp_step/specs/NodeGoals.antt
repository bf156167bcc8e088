-- What the goal of a node keeps of the node's limits.
use Rattle.std.specs.Prelude.{List, filter, length, not, ◌≤◌}
use Rattle.cyp_heap.specs.Goals.{goal_vars}
use Rattle.cyp_heap.specs.Limits.{goal_elements}
use Rattle.cyp_heap.specs.declared.goal.Goal.{Goal}
use Rattle.cyp_term.specs.Terms.{is_set_var, term_eq, var_eq, without_repeats}
use Rattle.cyp_term.specs.declared.term.Var.{Var}

-- the different variables of a goal
abbrev pub different_vars : Goal → List Var
different_vars g = without_repeats var_eq (goal_vars g)

-- no limit of a node is passed by this goal
pub record IsGoalOfNode (g : Goal) : Type 0 where
  pub pre_chunks : length g.pre.chunks ≤ 16
  pub post_chunks : length g.post.chunks ≤ 16
  pub pure_pre : length g.pure_pre ≤ 40
  pub pure_post : length g.pure_post ≤ 40
  pub program : length g.program ≤ 12
  -- variables that are no sets, and set variables
  pub numbers : length (filter (λ v. not (is_set_var v)) (different_vars g)) ≤ 32
  pub sets : length (filter is_set_var (different_vars g)) ≤ 12
  pub elements : length (without_repeats term_eq (goal_elements g)) ≤ 6
