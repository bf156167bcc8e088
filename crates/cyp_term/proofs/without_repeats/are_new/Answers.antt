use Rattle.std.proofs.Common.{[]}
use Rattle.cyp_term.proofs.KeptItems.{decided, kept_more, told_more}
use Rattle.cyp_term.specs.Once.{are_new}
use Rattle.cyp_term.proofs.without_repeats.are_new.Goals as goal

pub loop-item-preserved : goal.loop-item-preserved
loop-item-preserved g c =
    let eq = g.T.PartialEq.eq in
    let decides = decided eq g.met.T.Exact.exact g.met.T.Eq.laws.refl in
    let xs = c.args.items.now in
    let i = c.loop-item.item-index in
    record {
      told = told_more eq decides xs i c.loop-item-test.true c.loop-item.seen.keys c.item-item.result c.item-item.is c.loop-item.invariant.same c.loop-item.news.items c.push.new.self.items (are_new eq [] xs)
          c.in_ok-insert.field-0 c.in_ok-insert.ensures.added c.in_ok-push.ensures.items c.loop-item.invariant.told;
      same = kept_more eq decides xs i c.loop-item-test.true c.loop-item.seen.keys c.item-item.result c.item-item.is c.loop-item.invariant.same c.insert.new.self.keys c.in_ok-insert.ensures.updates.0;
    }
