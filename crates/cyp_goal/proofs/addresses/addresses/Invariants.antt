use Rattle.std.proofs.Common.{◌≡◌, ◌++◌, drop}
use Rattle.std.specs.List.{flat_map}
use Rattle.cyp_goal.specs.Tidying.{address}
use Rattle.cyp_goal.proofs.addresses.addresses.Given as goal

abbrev pub invariant-loop-chunk : goal.invariant-loop-chunk
invariant-loop-chunk l = l.terms.items ++ flat_map address (drop l.chunk-index l.chunks) ≡ flat_map address l.chunks
