use Rattle.std.proofs.Common.{length, reverse}
use Rattle.cyp_tree.specs.Choosing.{derived_at, Rebuilds, made_of}
use Rattle.cyp_tree.proofs.arena.Arena.rebuilt.Given as goal

abbrev pub invariant-loop-way : goal.invariant-loop-way
invariant-loop-way g l =
    Rebuilds l.self.places.items l.self.ways.items (derived_at l.self.root l.self.places.items l.self.ways.items 0) (reverse l.order.items) (made_of l.made.items)

abbrev pub decreases-loop-way : goal.decreases-loop-way
decreases-loop-way g l = length l.order.items
