-- What the rule Call asks of the companions of a node.
use Rattle.std.specs.Prelude.{◌&&◌, IsTrue, Some, is_none, slice_get, ◌≡◌, ℕ}
use Rattle.std.specs.List.{list_all}
use Rattle.cyp_heap.specs.declared.goal.Link.{Link}
use Rattle.cyp_heap.specs.declared.goal.Node.{Node}
use Rattle.cyp_kernel.specs.Correct.{unlinked}
use Rattle.cyp_kernel.specs.Steady.{IsSteady}
use Rattle.cyp_term.specs.Terms.{int_image, set_image}

-- no existential of the companion has an image in its map
abbrev pub HasFreeExist : Link → Type 0
HasFreeExist l = IsTrue (list_all (λ v. is_none (int_image l.map.ints v) && is_none (set_image l.map.sets v)) l.goal.exist)

-- what the soundness of Call asks of a node's companions
pub record HasSteadyLinks (n : Node) : Type 0 where
  -- the goal of each is as the rules ask
  pub goals : (i : ℕ) (l : Link) → slice_get n.links i ≡ Some l → IsSteady (unlinked n.preds l.goal)
  -- no existential of a companion has an image in its map
  pub exist_free : (i : ℕ) (l : Link) → slice_get n.links i ≡ Some l → HasFreeExist l
