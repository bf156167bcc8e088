use Rattle.std.proofs.Common.{◌≡◌, map}
use Rattle.cyp_flat.proofs.PlaceTurns.{rules_from}
use Rattle.cyp_flat.specs.ChunkRules.{rule_at}
use Rattle.cyp_step.specs.Rows.{least_allowed, pre_places}
use Rattle.cyp_flat.proofs.places.least_row.Given as goal

abbrev pub invariant-loop-place : goal.invariant-loop-place
invariant-loop-place l = least_allowed l.node (rules_from l.node (rule_at l.by) l.place) ≡ least_allowed l.node (map (rule_at l.by) (pre_places l.node))
