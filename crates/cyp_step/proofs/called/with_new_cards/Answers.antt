use Rattle.std.specs.Vec.Iter.{into_iter_items}
use Rattle.cyp_step.proofs.CallTurns.{cards_turn, low_turn}
use Rattle.cyp_step.proofs.called.with_new_cards.Goals as goal

pub loop-chunk-preserved : goal.loop-chunk-preserved
loop-chunk-preserved c =
    let rest = into_iter_items c.next.new.self in
    record {
      same =
          cards_turn c.args.tag c.loop-chunk.card c.card_behind-behind.result c.in-Some.chunk c.with_card.result rest _ c.loop-chunk.made.items c.push.new.self.items _ c.in-Some.ensures.steps.0
          c.loop-chunk.invariant.same c.with_card.ensures c.card_behind-behind.ensures.value c.in_ok-push.ensures.items;
      low = low_turn c.loop-chunk.card c.card_behind-behind.result c.in-Some.chunk rest _ c.in-Some.ensures.steps.0 c.loop-chunk.invariant.low c.card_behind-behind.ensures.most;
    }
