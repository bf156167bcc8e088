use Rattle.std.proofs.Common.{◌+◌, ◌++◌, ◌≡◌, ◌≤◌, length}
use Rattle.std.specs.Vec.Iter.{into_iter_items}
use Rattle.cyp_names.specs.Specifications.{with_cards}
use Rattle.cyp_reading.proofs.goals.with_cards.Given as goal

abbrev pub invariant-loop-chunk : goal.invariant-loop-chunk
invariant-loop-chunk l = record {
  made : l.given.items ++ with_cards l.number (into_iter_items l.chunk-iterator) ≡ with_cards 0 l.fn.chunks;
  fits : l.number + length (into_iter_items l.chunk-iterator) ≤ 255;
}
