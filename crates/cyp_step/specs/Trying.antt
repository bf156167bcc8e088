-- What comes of a rule at a node.
use Rattle.std.specs.Prelude.{List, None, Option, Some, false, true}
use Rattle.std.specs.List.{list_any}
use Rattle.cyp_heap.specs.declared.goal.Node.{Node}
use Rattle.cyp_step.specs.Shown.{dead}
use Rattle.cyp_step.specs.Step.{premises}
use Rattle.cyp_step.specs.declared.rule.Rule.{Rule}
use Rattle.cyp_step.specs.declared.rows.Tried.{Tried}
use Rattle.cyp_step.specs.declared.rows.Tried.TheVariants.{Allowed, Dead, NotAllowed}

-- what comes of a rule with these premises, where it is allowed
abbrev pub tried_with : Rule → Option (List Node) → Tried
tried_with r None = NotAllowed
tried_with r (Some ns) = elim (list_any (λ (m : Node). dead m.goal) ns) [ true ↦ Dead | false ↦ Allowed (record { rule = r; premises = ns }) ]

-- what comes of a rule at a node
abbrev pub tried : Node → Rule → Tried
tried n r = tried_with r (premises n r)
