use Rattle.std.proofs.Common.{◌≡◌, ◌++◌, drop}
use Rattle.std.specs.List.{flat_map}
use Rattle.cyp_goal.specs.Facts.{cell_address, cell_addresses}
use Rattle.cyp_goal.proofs.goal_facts.cells.Given as goal

abbrev pub invariant-loop-chunk : goal.invariant-loop-chunk
invariant-loop-chunk l = l.addresses.items ++ flat_map cell_address (drop l.chunk-index l.chunks) ≡ cell_addresses l.chunks
