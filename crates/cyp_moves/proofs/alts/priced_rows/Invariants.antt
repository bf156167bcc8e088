use Rattle.std.proofs.Common.{◌≡◌, ◌++◌, map}
use Rattle.std.specs.List.{All}
use Rattle.std.specs.Vec.Iter.{into_iter_items}
use Rattle.cyp_moves.specs.BuiltRows.{HasFewPremises}
use Rattle.cyp_moves.specs.Moves.{priced}
use Rattle.cyp_moves.proofs.alts.priced_rows.Given as goal

abbrev pub invariant-loop-row : goal.invariant-loop-row
invariant-loop-row l =
    (map priced l.fn.rows ≡ l.alts.items ++ map priced (into_iter_items l.row-iterator))
    × All HasFewPremises (into_iter_items l.row-iterator)
