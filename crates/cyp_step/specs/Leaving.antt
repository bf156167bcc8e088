-- What is made of a rule at a node, where its parts have offsets in range.
use Rattle.std.specs.Prelude.{None, Some, ◌≡◌}
use Rattle.cyp_heap.specs.declared.goal.Node.{Node}
use Rattle.cyp_step.specs.Changes.{Raws}
use Rattle.cyp_step.specs.Step.{raws, renamed_premises}
use Rattle.cyp_step.specs.declared.rule.Rule.{Rule}

-- these nodes are what the rule leaves to do; or there are none, and the rule has no premises, as it isn't allowed or an offset is too large
abbrev pub LeavesRaws : Node → Rule → Raws → Type 0
LeavesRaws n r (Some ms) = raws n r ≡ Some ms
LeavesRaws n r None = renamed_premises n r ≡ None
