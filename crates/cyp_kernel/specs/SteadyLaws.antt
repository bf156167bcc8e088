-- What each node of a derivation keeps, from a rule to its premises.
use Rattle.std.specs.Prelude.{IsTrue, List, Some, ◌≡◌}
use Rattle.std.specs.List.{All, AllByRecursion, list_all}
use Rattle.cyp_goal.specs.Normal.{Renaming, normal}
use Rattle.cyp_goal.specs.Raw.{is_sorted}
use Rattle.cyp_heap.specs.Formed.{IsFormed}
use Rattle.cyp_heap.specs.Goals.{node_vars}
use Rattle.cyp_heap.specs.PredsFormed.{IsFormedPreds}
use Rattle.cyp_heap.specs.declared.goal.Goal.{Goal}
use Rattle.cyp_heap.specs.declared.goal.Link.{Link}
use Rattle.cyp_heap.specs.declared.goal.Node.{Node}
use Rattle.cyp_heap.specs.declared.pred.Preds.{Preds}
use Rattle.cyp_kernel.specs.Correct.{unlinked}
use Rattle.cyp_kernel.specs.Steady.{IsSteady}
use Rattle.cyp_kernel.specs.SteadyLinks.{HasFreeExist}
use Rattle.cyp_step.specs.Nodes.{IsNode, IsOver}
use Rattle.cyp_step.specs.Step.{premises, raws}
use Rattle.cyp_step.specs.declared.rule.Rule.{Rule}
use Rattle.cyp_term.specs.Terms.{var_in}

-- each companion's goal, as a node without companions, is as the rules ask
abbrev pub CompanionsSteady : Node → Type 0
CompanionsSteady n = AllByRecursion (λ (k : Link). IsSteady (unlinked n.preds k.goal)) n.links

-- a node as a rule leaves it, before the normal form: it is as the rules ask, and so are its companions
pub record IsSteadyRaw (n : Node) : Type 0 where
  pub steady : IsSteady n
  pub companions : CompanionsSteady n

-- no existential of a companion has an image in its map
abbrev pub CompanionsFree : Node → Type 0
CompanionsFree n = AllByRecursion HasFreeExist n.links

-- a steady node within limits and well linked, each of whose existentials stands in it, and whose companions' existentials have no images
pub record IsSteadyNode (n : Node) : Type 0 where
  pub node : IsNode n
  pub raw : IsSteadyRaw n
  pub free : CompanionsFree n
  pub exist_stand : IsTrue (list_all (λ v. var_in v (node_vars n)) n.goal.exist)

-- what a rule leaves to do, before the normal form, is as the rules ask, and so are the companions
abbrev pub LeavesSteady : Type 0
LeavesSteady = (n : Node) (r : Rule) (ms : List Node) → IsFormedPreds n.preds → IsSteadyNode n → raws n r ≡ Some ms → All (IsOver n.preds IsSteadyRaw) ms

-- each existential of a normal form stands in it
abbrev pub NormalExistStand : Type 0
NormalExistStand = (n : Node) (r : Renaming) → IsSteady n → normal n ≡ Some r → IsTrue (list_all (λ v. var_in v (node_vars r.node)) r.node.goal.exist)

-- the premises of such a node are such nodes again, over the same predicates
abbrev pub PremisesSteady : Type 0
PremisesSteady = (n : Node) (r : Rule) (ms : List Node) → IsFormedPreds n.preds → IsSteadyNode n → premises n r ≡ Some ms → All (IsOver n.preds IsSteadyNode) ms

-- the normal form of a formed goal whose variables have the sorts of their places is such a node
abbrev pub RootIsSteady : Type 0
RootIsSteady =
    (preds : Preds) (g : Goal) (r : Renaming) → IsFormed preds g → IsTrue (is_sorted (unlinked preds g)) → normal (unlinked preds g) ≡ Some r → IsOver preds IsSteadyNode r.node
