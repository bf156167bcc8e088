use Rattle.std.proofs.Common.{◌≤◌, le_trans, length, subst, sym}
use Rattle.cyp_heap.specs.declared.chunk.Heap.{Heap}
use Rattle.cyp_step.proofs.CellsTaken.{length-without}
use Rattle.cyp_step.proofs.flat_goals.freed.Goals as goal

pub without_cells-requires : goal.without_cells-requires
without_cells-requires c =
    subst (λ cs. length cs ≤ 16) (sym c.remove-block.ensures.rest)
    (le_trans (length-without c.in_ok-pre.pre.chunks c.args.place) (subst (λ (h : Heap). length h.chunks ≤ 16) (sym c.in_ok-pre.ensures) c.requires.few))
