-- Derivations whose every place is a step.
use Rattle.std.specs.Prelude.{[], List, None, Option, Some, ℕ, ◌∷◌, ◌≡◌}
use Rattle.cyp_heap.specs.declared.goal.Node.{Node}
use Rattle.cyp_kernel.specs.Companions.{Proof, Proofs}
use Rattle.cyp_step.specs.Step.{premises}
use Rattle.cyp_step.specs.declared.rule.Rule.{Rule}
use Rattle.cyp_step.specs.declared.rule.Rule.TheVariants.{ByOpen}
use Rattle.cyp_tree.specs.Derivations.{Derived, More, NoMore}

-- the node at the root of a derivation
abbrev pub root_node : Proof → Node
root_node (Derived n r ds) = n

-- the nodes of the parts
abbrev pub part_nodes : Proofs → List Node
part_nodes NoMore = []
part_nodes (More d ds) = root_node d ∷ part_nodes ds

abbrev mutual
  -- at each place the nodes of the parts are the premises of the place's node and rule
  pub StepsHold : Proof → Type 0
  StepsHold (Derived n r ds) = (premises n r ≡ Some (part_nodes ds)) × AllStepsHold ds

  pub AllStepsHold : Proofs → Type 0
  AllStepsHold NoMore = Unit {0}
  AllStepsHold (More d ds) = StepsHold d × AllStepsHold ds

-- the derivation is one of this node, which has no companions, and each of its places is a step
abbrev pub IsAccepted : Node → Proof → Type 0
IsAccepted n d = (root_node d ≡ n) × (n.links ≡ []) × StepsHold d

-- the instance that the rule opens, or none where it is another rule
abbrev pub opened : Rule → Option ℕ
opened (ByOpen i) = Some i
opened r = None

-- the lead of a derivation: the instance of the precondition that its root opens
abbrev pub lead_of : Proof → Option ℕ
lead_of (Derived n r ds) = opened r
