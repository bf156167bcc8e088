use Rattle.std.proofs.Common.{◌∙◌, ap}
use Rattle.cyp_heap.proofs.Order.{with_content-slice_set}
use Rattle.cyp_heap.specs.Chunks.{with_content}
use Rattle.cyp_heap.specs.declared.chunk.Heap.{Heap}
use Rattle.cyp_step.proofs.flat_goals.rewritten.Goals as goal

pub returns : goal.returns
returns c =
    c.rewrite.ensures ∙ ap (λ (h : Heap). with_content h.chunks c.args.place c.args.content) c.in_ok-pre.ensures
    ∙ with_content-slice_set c.args.goal.now.pre.chunks c.args.place c.args.cell.now c.args.content c.requires
