use Rattle.std.proofs.Common.{◌≡◌, ◌++◌, ◌+◌, ◌≤◌, length}
use Rattle.std.specs.Vec.Iter.{into_iter_items}
use Rattle.cyp_step.specs.Calling.{with_new_cards}
use Rattle.cyp_step.proofs.called.with_new_cards.Given as goal

abbrev pub invariant-loop-chunk : goal.invariant-loop-chunk
invariant-loop-chunk l = record {
  same : l.made.items ++ with_new_cards l.tag l.card (into_iter_items l.chunk-iterator) ≡ with_new_cards l.tag l.fn.card l.fn.chunks;
  low : l.card + length (into_iter_items l.chunk-iterator) ≤ 48;
}
