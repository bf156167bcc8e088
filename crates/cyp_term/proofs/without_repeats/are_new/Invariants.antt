use Rattle.std.proofs.Common.{[], ◌≡◌, ◌++◌, drop, take}
use Rattle.std.specs.List.{list_any}
use Rattle.cyp_term.specs.Once.{are_new}
use Rattle.cyp_term.proofs.without_repeats.are_new.Given as goal

abbrev pub invariant-loop-item : goal.invariant-loop-item
invariant-loop-item g l = record {
  told : l.news.items ++ are_new g.T.PartialEq.eq (take l.item-index l.items) (drop l.item-index l.items) ≡ are_new g.T.PartialEq.eq [] l.items;
  same : (q : g.row.T.Denot) → list_any (λ k. g.T.PartialEq.eq q k.now) l.seen.keys ≡ list_any (g.T.PartialEq.eq q) (take l.item-index l.items);
}
