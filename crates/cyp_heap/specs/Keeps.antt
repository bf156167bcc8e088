-- What each node keeps.
use Rattle.std.specs.Prelude.{IsTrue, nat_lt, ◌++◌}
use Rattle.std.specs.List.{list_all}
use Rattle.cyp_heap.specs.Formed.{IsWellLinked, insts_fit}
use Rattle.cyp_heap.specs.Goals.{node_vars}
use Rattle.cyp_heap.specs.Limits.{is_within_limits}
use Rattle.cyp_heap.specs.NodeValue.{NodeValue}
use Rattle.cyp_term.specs.declared.term.Var.{Var}

-- no limit is passed, the instances fit, the companions are well linked, and variables have numbers below 32
pub record KeepsNode (n : NodeValue) : Type 0 where
  pub within : IsTrue (is_within_limits n)
  pub fits : IsTrue (insts_fit n.preds n.goal)
  pub linked : IsWellLinked n
  pub low : IsTrue (list_all (λ (v : Var). nat_lt v.number 32) (node_vars n ++ n.goal.exist))
