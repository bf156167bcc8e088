-- Laws of the step relation: what premises keep of their node.
use Rattle.std.specs.Prelude.{[], IsTrue, List, Some, ◌≡◌}
use Rattle.std.specs.List.{All}
use Rattle.cyp_goal.specs.Normal.{Renaming, normal}
use Rattle.cyp_heap.specs.Formed.{IsWellLinked, insts_fit}
use Rattle.cyp_heap.specs.declared.goal.Goal.{Goal}
use Rattle.cyp_heap.specs.declared.goal.Node.{Node}
use Rattle.cyp_heap.specs.declared.pred.Preds.{Preds}
use Rattle.cyp_step.specs.Nodes.{IsNode, IsOver, IsRaw, clauses_fit}
use Rattle.cyp_step.specs.Step.{premises, raws}
use Rattle.cyp_step.specs.declared.rule.Rule.{Rule}

-- each premise of a node is well linked
abbrev pub PremisesAreWellLinked : Type 0
PremisesAreWellLinked = (n : Node) (r : Rule) (ms : List Node) → IsNode n → premises n r ≡ Some ms → All IsWellLinked ms

-- where instances in clauses fit, each premise of a node is again a node over its predicates
abbrev pub PremisesAreNodes : Type 0
PremisesAreNodes = (n : Node) (r : Rule) (ms : List Node) → IsTrue (clauses_fit n.preds) → IsNode n → premises n r ≡ Some ms → All (IsOver n.preds IsNode) ms

-- so is what a rule leaves before the normal form, but for the limits
abbrev pub LeftNodesAreRaw : Type 0
LeftNodesAreRaw = (n : Node) (r : Rule) (ms : List Node) → IsTrue (clauses_fit n.preds) → IsNode n → raws n r ≡ Some ms → All (IsOver n.preds IsRaw) ms

-- the normal form of a goal without companions has none either, and so it is well linked
abbrev pub RootIsWellLinked : Type 0
RootIsWellLinked =
    (preds : Preds) (g : Goal) (r : Renaming) → normal (record { preds = preds; goal = g; links = [] }) ≡ Some r → (r.node.links ≡ []) × IsWellLinked r.node

-- where the goal's instances fit, it is a node over the predicates
abbrev pub RootIsNode : Type 0
RootIsNode =
    (preds : Preds) (g : Goal) (r : Renaming) → IsTrue (insts_fit preds g) → normal (record { preds = preds; goal = g; links = [] }) ≡ Some r → IsOver preds IsNode r.node
