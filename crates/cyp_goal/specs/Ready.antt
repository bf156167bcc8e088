-- What is asked of a node that is to be numbered.
use Rattle.std.specs.Prelude.{IsTrue}
use Rattle.std.specs.List.{list_all}
use Rattle.cyp_heap.specs.Formed.{IsWellLinked, insts_fit}
use Rattle.cyp_heap.specs.Goals.{node_vars}
use Rattle.cyp_heap.specs.declared.goal.Node.{Node}
use Rattle.cyp_term.specs.Terms.{var_in}

-- its companions are well linked, its instances fit, and each existential stands somewhere
pub record IsReady (n : Node) : Type 0 where
  pub linked : IsWellLinked n
  pub fits : IsTrue (insts_fit n.preds n.goal)
  pub used : IsTrue (list_all (λ v. var_in v (node_vars n)) n.goal.exist)
