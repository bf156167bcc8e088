use Rattle.std.proofs.Common.{length, map, reverse}
use Rattle.cyp_tree.specs.Marked.{status_at}
use Rattle.cyp_tree.specs.Choosing.{AreSolved, derived_at, Rebuilds}
use Rattle.cyp_tree.proofs.TakenWays.{total}
use Rattle.cyp_tree.specs.Standing.{tree_at}
use Rattle.cyp_tree.specs.Sizes.{size}
use Rattle.cyp_tree.proofs.arena.Arena.taken_ways.Given as goal

abbrev pub invariant-loop-at : goal.invariant-loop-at
invariant-loop-at g l = record {
  solved : AreSolved (status_at l.self.marks) (length l.self.places.items) l.pending.items;
  rebuilds : Rebuilds l.self.places.items l.self.ways.items (derived_at l.self.root l.self.places.items l.self.ways.items 0) (reverse l.order.items) (map (derived_at l.self.root l.self.places.items l.self.ways.items) l.pending.items);
}

abbrev pub decreases-loop-at : goal.decreases-loop-at
decreases-loop-at g l = total (λ k. size (tree_at (length l.self.places.items) l.self.root l.self.places.items l.self.ways.items k)) l.pending.items
