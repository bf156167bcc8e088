-- The root of the search for a program of a specification.
use Rattle.std.specs.Prelude.{None, Option, Some, []}
use Rattle.cyp_goal.specs.Normal.{Renaming, normal}
use Rattle.cyp_heap.specs.declared.goal.Node.{Node}
use Rattle.cyp_names.specs.Specifications.{Specification}

-- the specification's goal as a node without companions
abbrev pub spec_node : Specification → Node
spec_node s = record { preds = s.preds; goal = s.goal; links = [] }

-- the node in normal form, or the given one where there is none
abbrev pub node_or : Node → Option Renaming → Node
node_or n None = n
node_or n (Some r) = r.node

-- the root of the search: the normal form of the goal
abbrev pub root_of : Specification → Node
root_of s = node_or (spec_node s) (normal (spec_node s))
