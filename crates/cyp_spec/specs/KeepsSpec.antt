-- What each specification keeps.
use Rattle.std.specs.Prelude.{IsTrue}
use Rattle.cyp_heap.specs.Formed.{IsFormed}
use Rattle.cyp_formed.specs.LimitFaults.{is_root_within}
use Rattle.cyp_names.specs.Specifications.{Specification}

-- its goal is formed, and within the limits as it is written and in its normal form
pub record KeepsSpec (s : Specification) : Type 0 where
  pub formed : IsFormed s.preds s.goal
  pub within : IsTrue (is_root_within s)
