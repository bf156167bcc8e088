-- The goal of a node within limits keeps those that speak of it alone.
use Rattle.std.proofs.Common.{[], ◌++◌, ◌≤◌, Bool, IsTrue, filter, flat_map, le_trans, length, nat_le, not}
use Rattle.std.proofs.lemmas.Bool.{and_parts, leb-true}
use Rattle.cyp_heap.specs.Goals.{goal_vars, image_vars, node_vars}
use Rattle.cyp_heap.specs.Limits.{goal_elements, is_within_limits, node_units}
use Rattle.cyp_heap.specs.declared.goal.Link.{Link}
use Rattle.cyp_heap.specs.declared.goal.Node.{Node}
use Rattle.cyp_step.proofs.GoalWithin.{append_more}
use Rattle.cyp_step.specs.NodeGoals.{IsGoalOfNode, different_vars}
use Rattle.cyp_term.specs.Terms.{is_set_var, term_eq, term_vars, var_eq, without_repeats}
use Rattle.cyp_term.specs.declared.term.Var.{Var}

-- the goal has at most as many variables that pass a test as the node
fewer_vars : (n : Node) (p : Var → Bool) → length (filter p (different_vars n.goal)) ≤ length (filter p (node_vars n))
fewer_vars n p = append_more var_eq p [] (goal_vars n.goal) (flat_map (λ (k : Link). flat_map term_vars k.tuple ++ image_vars k.map) n.links)

pub goal_of_node : (n : Node) → IsTrue (is_within_limits n) → IsGoalOfNode n.goal
goal_of_node n h =
    let t9 = and_parts _ (nat_le (node_units n) 240) h in
    let t8 = and_parts _ (nat_le (length n.links) 4) t9.0 in
    let t7 = and_parts _ (nat_le (length (without_repeats term_eq (goal_elements n.goal))) 6) t8.0 in
    let t6 = and_parts _ (nat_le (length (filter is_set_var (node_vars n))) 12) t7.0 in
    let t5 = and_parts _ (nat_le (length (filter (λ v. not (is_set_var v)) (node_vars n))) 32) t6.0 in
    let t4 = and_parts _ (nat_le (length n.goal.program) 12) t5.0 in
    let t3 = and_parts _ (nat_le (length n.goal.pure_post) 40) t4.0 in
    let t2 = and_parts _ (nat_le (length n.goal.pure_pre) 40) t3.0 in
    let t1 = and_parts (nat_le (length n.goal.pre.chunks) 16) (nat_le (length n.goal.post.chunks) 16) t2.0 in
    record {
      pre_chunks = leb-true _ 16 t1.0;
      post_chunks = leb-true _ 16 t1.1;
      pure_pre = leb-true _ 40 t2.1;
      pure_post = leb-true _ 40 t3.1;
      program = leb-true _ 12 t4.1;
      numbers = le_trans (fewer_vars n (λ v. not (is_set_var v))) (leb-true _ 32 t5.1);
      sets = le_trans (fewer_vars n is_set_var) (leb-true _ 12 t6.1);
      elements = leb-true _ 6 t7.1;
    }
