use Rattle.std.proofs.Common.{◌≡◌, ◌++◌, map}
use Rattle.cyp_flat.proofs.PlaceTurns.{rules_from}
use Rattle.cyp_flat.specs.ChunkRules.{rule_at}
use Rattle.cyp_step.specs.Rows.{pre_places, rows}
use Rattle.cyp_flat.proofs.places.add_rows.Given as goal

abbrev pub invariant-loop-place : goal.invariant-loop-place
invariant-loop-place l =
    l.table.items ++ rows l.node (rules_from l.node (rule_at l.by) l.place) ≡ l.initial.table.items ++ rows l.node (map (rule_at l.by) (pre_places l.node))
