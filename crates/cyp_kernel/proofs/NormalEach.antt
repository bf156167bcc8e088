-- The normal forms of several nodes, one by one.
use Rattle.std.proofs.Common.{◌≡◌, ◌∷◌, List, Some, sym}
use Rattle.cyp_goal.specs.Normal.{Renaming, normal}
use Rattle.cyp_heap.specs.Goals.{wide_node}
use Rattle.cyp_heap.specs.declared.goal.Node.{Node}
use Rattle.cyp_kernel.proofs.Allowed.{mapped_some, taken_false, taken_some}
use Rattle.cyp_step.specs.Step.{all_normal}

-- the normal form of the first and those of the others
pub record Split (m : Node) (ms : List Node) (rs : List Renaming) : Type 0 where
  pub first : Renaming
  pub others : List Renaming
  pub first_is : normal m ≡ Some first
  pub others_are : all_normal ms ≡ Some others
  pub both : rs ≡ first ∷ others

pub split : (m : Node) (ms : List Node) (rs : List Renaming) → all_normal (m ∷ ms) ≡ Some rs → Split m ms rs
split m ms rs e =
    let a = taken_false (wide_node m) _ rs e in
    let b = taken_some (normal m) _ rs a.1 in
    let c = mapped_some (λ (xs : List Renaming). b.0 ∷ xs) (all_normal ms) rs b.2 in
    record { first = b.0; others = c.0; first_is = b.1; others_are = c.1; both = sym c.2 }
