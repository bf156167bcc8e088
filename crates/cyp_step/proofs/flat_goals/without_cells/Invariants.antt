use Rattle.std.proofs.Common.{◌≡◌, ◌-◌, ◌≤◌, length}
use Rattle.cyp_step.specs.FlatRules.{cells_from, without_cells}
use Rattle.cyp_step.proofs.flat_goals.without_cells.Given as goal

abbrev pub invariant-loop-more : goal.invariant-loop-more
invariant-loop-more l =
    (without_cells (cells_from l.at l.more (l.more-end - l.more)) l.heap.chunks ≡ without_cells (cells_from l.at 0 l.more-end) l.initial.heap.chunks)
    × (length l.heap.chunks ≤ 16)
