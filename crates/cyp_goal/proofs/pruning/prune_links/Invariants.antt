use Rattle.std.proofs.Common.{◌≡◌, ◌++◌, map}
use Rattle.std.specs.Vec.Iter.{into_iter_items}
use Rattle.cyp_goal.specs.Alive.{alive_link}
use Rattle.cyp_goal.proofs.pruning.prune_links.Given as goal

abbrev pub invariant-loop-link : goal.invariant-loop-link
invariant-loop-link l = l.pruned.items ++ map (alive_link l.live l.dropped) (into_iter_items l.link-iterator) ≡ map (alive_link l.live l.dropped) l.fn.links
