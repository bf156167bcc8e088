use Rattle.std.proofs.Common.{ap, arith, length, ◌∙◌, ◌∷◌, ◌++◌, []}
use Rattle.std.specs.Vec.Iter.{into_iter_items}
use Rattle.cyp_heap.specs.declared.chunk.Chunk.{Chunk}
use Rattle.cyp_reading.proofs.CardsGiven.{cards_turn, next_most}
use Rattle.cyp_names.specs.Specifications.{with_cards}
use Rattle.cyp_reading.proofs.goals.with_cards.Goals as goal

pub next_card-next-requires : goal.next_card-next-requires
next_card-next-requires c = omega (arith, c.loop-chunk.invariant.fits, ap length c.in-Some.ensures.steps.0)

pub loop-chunk-preserved : goal.loop-chunk-preserved
loop-chunk-preserved c =
    let rest = into_iter_items c.next.new.self in
    let made = cards_turn c.loop-chunk.number c.in-Some.chunk (into_iter_items c.loop-chunk.chunk-iterator) rest c.loop-chunk.given.items c.push.new.self.items _ c.in-Some.ensures.steps.0
    (c.in_ok-push.ensures.items ∙ ap (λ (x : Chunk). c.loop-chunk.given.items ++ x ∷ []) c.with_card.ensures) c.loop-chunk.invariant.made in
    record {
      made = ap (λ k. c.push.new.self.items ++ with_cards k rest) c.next_card-next.ensures ∙ made;
      fits = omega (arith, c.loop-chunk.invariant.fits, ap length c.in-Some.ensures.steps.0, next_most c.loop-chunk.number c.in-Some.chunk, c.next_card-next.ensures);
    }
