use Rattle.std.proofs.Common.{◌≡◌, ◌++◌, false, map}
use Rattle.std.specs.List.{list_any}
use Rattle.std.specs.Vec.Iter.{into_iter_items}
use Rattle.cyp_heap.specs.Goals.{apply_link, wide_link}
use Rattle.cyp_goal.proofs.substitution.apply_links.Given as goal

abbrev pub invariant-loop-link : goal.invariant-loop-link
invariant-loop-link l = record {
  same : l.applied.items ++ map (apply_link l.by) (into_iter_items l.link-iterator) ≡ map (apply_link l.by) l.fn.links;
  narrow : list_any wide_link l.applied.items ≡ false;
}
