use Rattle.std.proofs.Common.{◌≡◌, drop}
use Rattle.std.specs.List.{list_any}
use Rattle.cyp_heap.specs.declared.goal.Node.{Node}
use Rattle.cyp_step.specs.Shown.{dead}
use Rattle.cyp_step.proofs.rows.has_dead.Given as goal

abbrev pub invariant-loop-node : goal.invariant-loop-node
invariant-loop-node l = list_any (λ (m : Node). dead m.goal) (drop l.node-index l.nodes) ≡ list_any (λ (m : Node). dead m.goal) l.nodes
