use Rattle.std.proofs.Common.{ap, arith, length, ◌∙◌, ◌∷◌, ◌++◌, ◌+◌, []}
use Rattle.std.specs.Vec.Iter.{into_iter_items}
use Rattle.cyp_heap.specs.Chunks.{insts}
use Rattle.cyp_heap.specs.declared.chunk.Chunk.{Chunk}
use Rattle.cyp_pred.proofs.Tagged.{insts_head, tags_turn}
use Rattle.cyp_pred.proofs.subinstances.with_tags.Goals as goal

pub overflow_add-number : goal.overflow_add-number
overflow_add-number c =
    omega (arith, c.loop-chunk.invariant.fits, ap (λ cs. length (insts cs)) c.in-Some.ensures.steps.0, insts_head c.in-Some.chunk (into_iter_items c.next.new.self), c.insts_of-count.ensures.value)

pub loop-chunk-preserved : goal.loop-chunk-preserved
loop-chunk-preserved c =
    let rest = into_iter_items c.next.new.self in
    record {
      made = tags_turn c.args.card c.args.tag c.loop-chunk.number _ c.loop-chunk.tagged.items c.push.new.self.items _ (into_iter_items c.loop-chunk.chunk-iterator) c.in-Some.chunk rest c.in-Some.ensures.steps.0
          (c.in_ok-push.ensures.items ∙ ap (λ (x : Chunk). c.loop-chunk.tagged.items ++ x ∷ []) c.with_tag.ensures) (ap (λ n. c.loop-chunk.number + n) c.insts_of-count.ensures.value) c.loop-chunk.invariant.made;
      fits = omega (arith, c.loop-chunk.invariant.fits, ap (λ cs. length (insts cs)) c.in-Some.ensures.steps.0, insts_head c.in-Some.chunk rest, c.insts_of-count.ensures.value);
    }
