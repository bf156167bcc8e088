use Rattle.std.proofs.Common.{◌≡◌, ◌++◌, ◌+◌, ◌≤◌, drop, length}
use Rattle.std.specs.List.{items_where_true}
use Rattle.std.specs.Vec.Iter.{into_iter_items}
use Rattle.cyp_term.proofs.without_repeats.chosen.Given as goal

abbrev pub invariant-loop-item : goal.invariant-loop-item
invariant-loop-item g l = record {
  within : l.place + length (into_iter_items l.item-iterator) ≤ length l.answers;
  same : l.chosen.items ++ items_where_true (drop l.place l.answers) (into_iter_items l.item-iterator) ≡ items_where_true l.answers l.fn.items.items;
}
