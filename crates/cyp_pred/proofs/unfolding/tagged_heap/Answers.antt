use Rattle.std.proofs.Common.{List, arith, suc, ◌+◌, ◌≡◌, ◌∙◌, ap}
use Rattle.cyp_heap.specs.declared.chunk.Chunk.{Chunk}
use Rattle.cyp_pred.proofs.Tagged.{tagged_is, tags_in_order}
use Rattle.cyp_pred.proofs.unfolding.tagged_heap.Goals as goal

pub new-requires : goal.new-requires
new-requires c =
    tags_in_order c.args.inst.now.card (c.args.inst.now.tag + 1) c.first_number-first.result c.into_chunks.result c.in_ok-chunks.chunks c.in_ok-chunks.ensures c.into_chunks.ensures.order

pub returns : goal.returns
returns c =
    let next : c.args.inst.now.tag + 1 ≡ suc c.args.inst.now.tag = omega arith in
    c.new.ensures
    ∙ ap (λ (cs : List Chunk). record { chunks = cs })
    (tagged_is c.args.inst.now.card c.args.inst.now.tag (c.args.inst.now.tag + 1) c.args.next.cards c.first_number-first.result c.into_chunks.result c.in_ok-chunks.chunks c.args.heap.chunks
    next c.first_number-first.ensures c.in_ok-chunks.ensures c.into_chunks.ensures.chunks)
