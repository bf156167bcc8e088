use Rattle.std.proofs.Common.{◌≡◌, ◌++◌}
use Rattle.cyp_step.proofs.BlocksMade.{cells_left}
use Rattle.cyp_step.specs.FlatGoals.{with_block}
use Rattle.cyp_step.proofs.allocating.with_block.Given as goal

abbrev pub invariant-loop-more : goal.invariant-loop-more
invariant-loop-more l = l.chunks ++ cells_left l.var l.size l.more ≡ with_block l.fn.pre.chunks l.var l.size
