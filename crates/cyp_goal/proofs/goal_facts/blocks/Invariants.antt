use Rattle.std.proofs.Common.{◌≡◌, ◌++◌, drop}
use Rattle.std.specs.List.{flat_map}
use Rattle.cyp_goal.specs.Facts.{block_address, block_addresses}
use Rattle.cyp_goal.proofs.goal_facts.blocks.Given as goal

abbrev pub invariant-loop-chunk : goal.invariant-loop-chunk
invariant-loop-chunk l = l.addresses.items ++ flat_map block_address (drop l.chunk-index l.chunks) ≡ block_addresses l.chunks
