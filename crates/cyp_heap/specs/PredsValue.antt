use Rattle.std.specs.Prelude.{List}
use Rattle.cyp_heap.specs.declared.pred.Pred.{Pred}

-- the predicates of a specification
pub record PredsValue : Type 0 where
  pub list : List Pred
