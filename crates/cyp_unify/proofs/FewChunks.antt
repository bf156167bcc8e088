-- A node's precondition has few chunks.
use Rattle.std.proofs.Common.{◌≡◌, ◌≤◌, ap, filter, length, nat_le, not, arith, List}
use Rattle.std.proofs.lemmas.Bool.{and_parts, leb-true}
use Rattle.cyp_heap.specs.Goals.{node_vars}
use Rattle.cyp_heap.specs.Keeps.{KeepsNode}
use Rattle.cyp_heap.specs.Limits.{goal_elements, node_units}
use Rattle.cyp_heap.specs.declared.chunk.Chunk.{Chunk}
use Rattle.cyp_heap.specs.declared.goal.Node.{Node}
use Rattle.cyp_term.specs.Terms.{is_set_var, term_eq, without_repeats}

pub few_chunks : (n : Node) (cs : List Chunk) → cs ≡ n.goal.pre.chunks → KeepsNode n → length cs ≤ 256
few_chunks n cs e keeps =
    let t9 = and_parts _ (nat_le (node_units n) 240) keeps.within in
    let t8 = and_parts _ (nat_le (length n.links) 4) t9.0 in
    let t7 = and_parts _ (nat_le (length (without_repeats term_eq (goal_elements n.goal))) 6) t8.0 in
    let t6 = and_parts _ (nat_le (length (filter is_set_var (node_vars n))) 12) t7.0 in
    let t5 = and_parts _ (nat_le (length (filter (λ v. not (is_set_var v)) (node_vars n))) 32) t6.0 in
    let t4 = and_parts _ (nat_le (length n.goal.program) 12) t5.0 in
    let t3 = and_parts _ (nat_le (length n.goal.pure_post) 40) t4.0 in
    let t2 = and_parts _ (nat_le (length n.goal.pure_pre) 40) t3.0 in
    let t1 = and_parts (nat_le (length n.goal.pre.chunks) 16) (nat_le (length n.goal.post.chunks) 16) t2.0 in
    let few : length n.goal.pre.chunks ≤ 16 = leb-true _ 16 t1.0 in
    omega (arith, few, ap length e)
