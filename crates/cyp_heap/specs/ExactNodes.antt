use Rattle.std.specs.Prelude.{◌&&◌, ◌==◌, ◌≡◌, Bool, false, refl, true, ℕ}
use Rattle.std.proofs.Common.{arith, rules}
use Rattle.cyp_heap.specs.ExactChunks.{exact_heap}
use Rattle.cyp_heap.specs.NodeValue.{NodeValue}
use Rattle.cyp_heap.specs.PredsValue.{PredsValue}
use Rattle.cyp_heap.specs.contracts.goal.GoalPartialEq.TheImpl.{ghosts as goal_ghosts}
use Rattle.cyp_heap.specs.contracts.goal.LinkPartialEq.TheImpl.{ghosts as link_ghosts}
use Rattle.cyp_heap.specs.contracts.goal.NodePartialEq.TheImpl.{ghosts as node_ghosts}
use Rattle.cyp_heap.specs.contracts.goal.RawPartialEq.TheImpl.{ghosts as raw_ghosts}
use Rattle.cyp_heap.specs.contracts.pred.ClausePartialEq.TheImpl.{ghosts as clause_ghosts}
use Rattle.cyp_heap.specs.contracts.pred.PredPartialEq.TheImpl.{ghosts as pred_ghosts}
use Rattle.cyp_heap.specs.contracts.pred.PredsPartialEq.TheImpl.{ghosts as preds_ghosts}
use Rattle.cyp_heap.specs.declared.goal.Goal.{Goal}
use Rattle.cyp_heap.specs.declared.goal.Link.{Link}
use Rattle.cyp_heap.specs.declared.pred.Clause.{Clause}
use Rattle.cyp_heap.specs.declared.pred.Pred.{Pred}
use Rattle.cyp_term.specs.ExactLits.{exact_lit, exact_set_term, exact_term, exact_var}
use Rattle.cyp_term.specs.Exactly.{exact_lists}
use Rattle.cyp_term.specs.contracts.subst.IntBindPartialEq.TheImpl.{ghosts as int_bind_ghosts}
use Rattle.cyp_term.specs.contracts.subst.SetBindPartialEq.TheImpl.{ghosts as set_bind_ghosts}
use Rattle.cyp_term.specs.contracts.subst.SubstPartialEq.TheImpl.{ghosts as subst_ghosts}
use Rattle.cyp_term.specs.contracts.term.SortPartialEq.TheImpl.{ghosts as sort_ghosts}
use Rattle.cyp_term.specs.declared.subst.IntBind.{IntBind}
use Rattle.cyp_term.specs.declared.subst.SetBind.{SetBind}
use Rattle.cyp_term.specs.declared.subst.Subst.{Subst}
use Rattle.cyp_term.specs.declared.term.Sort.{Sort}

-- entries of a map that are equal by `==` bind the same variable to the same term
pub exact_int_bind : (x y : IntBind) → (int_bind_ghosts).eq x y ≡ true → x ≡ y
exact_int_bind x y e = grind (arith, exact_var x.var y.var, exact_term x.to y.to)

-- entries of a map that are equal by `==` bind the same variable to the same set term
pub exact_set_bind : (x y : SetBind) → (set_bind_ghosts).eq x y ≡ true → x ≡ y
exact_set_bind x y e = grind (arith, exact_var x.var y.var, exact_set_term x.to y.to)

-- maps that are equal by `==` have the same entries in the same order
pub exact_subst : (x y : Subst) → (subst_ghosts).eq x y ≡ true → x ≡ y
exact_subst x y e = grind (arith, exact_lists exact_int_bind x.ints y.ints, exact_lists exact_set_bind x.sets y.sets)

-- goals that are equal by `==` have the same variables, literals and heaps
pub exact_goal : (x y : Goal) → (goal_ghosts).eq x y ≡ true → x ≡ y
exact_goal x y e = grind (
  arith,
  exact_lists exact_var x.program y.program,
  exact_lists exact_var x.exist y.exist,
  exact_lists exact_lit x.pure_pre y.pure_pre,
  exact_heap x.pre y.pre,
  exact_lists exact_lit x.pure_post y.pure_post,
  exact_heap x.post y.post,
)

-- companions that are equal by `==` have the same goal, map and measures
pub exact_link : (x y : Link) → (link_ghosts).eq x y ≡ true → x ≡ y
exact_link x y e = grind (
  arith,
  exact_goal x.goal y.goal,
  exact_lists exact_term x.own y.own,
  exact_subst x.map y.map,
  exact_lists exact_term x.tuple y.tuple,
)

-- sorts that are equal by `==` are the same
pub exact_sort : (x y : Sort) → (sort_ghosts).eq x y ≡ true → x ≡ y
exact_sort x y e = search rules

-- numbers that are equal by `==` are the same
pub exact_number : (x y : ℕ) → (x == y) ≡ true → x ≡ y
exact_number x y e = search rules

-- both tests pass where their conjunction does
both : (a b : Bool) → (a && b) ≡ true → (a ≡ true) × (b ≡ true)
both true b e = (refl, e)
both false b e = cc

-- a clause is its parts
joined : (x y : Clause) → x.guard ≡ y.guard → x.lits ≡ y.lits → x.heap ≡ y.heap → x.ints ≡ y.ints → x.sets ≡ y.sets → x ≡ y
joined x y a b c d e = grind arith

-- clauses that are equal by `==` have the same guard, literals, heap and counts of variables
pub exact_clause : (x y : Clause) → (clause_ghosts).eq x y ≡ true → x ≡ y
exact_clause x y e =
    let p = both _ _ e in let q = both _ _ p.1 in let r = both _ _ q.1 in let s = both _ _ r.1 in
    joined x y (exact_lit _ _ p.0) (exact_lists exact_lit _ _ q.0) (exact_heap _ _ r.0) (exact_number _ _ s.0) (exact_number _ _ s.1)

-- predicates that are equal by `==` have the same name, sorts of parameters and clauses
pub exact_pred : (x y : Pred) → (pred_ghosts).eq x y ≡ true → x ≡ y
exact_pred x y e = grind (arith, exact_lists exact_number x.name y.name, exact_lists exact_sort x.params y.params, exact_lists exact_clause x.clauses y.clauses)

-- lists of predicates that are equal by `==` are the same
pub exact_preds : (x y : PredsValue) → (preds_ghosts).eq x y ≡ true → x ≡ y
exact_preds x y e = grind (arith, exact_lists exact_pred x.list y.list)

-- nodes that are equal by `==` have the same predicates, goal and companions
pub exact_node : (x y : NodeValue) → (node_ghosts).eq x y ≡ true → x ≡ y
exact_node x y e = grind (arith, exact_preds x.preds y.preds, exact_goal x.goal y.goal, exact_lists exact_link x.links y.links)

-- what a step makes is the same where it is equal by `==`, in all three parts
pub exact_raw : (x y : NodeValue) → (raw_ghosts).eq x y ≡ true → x ≡ y
exact_raw x y e = grind (arith, exact_preds x.preds y.preds, exact_goal x.goal y.goal, exact_lists exact_link x.links y.links)
