use Rattle.std.proofs.Common.{length, ◌≡◌}
use Rattle.cyp_machine.specs.Rests.{block, blocks}
use Rattle.cyp_machine.specs.Steps.{followed_by}
use Rattle.cyp_machine.proofs.frame.settled.Given as goal

abbrev pub invariant-loop-later : goal.invariant-loop-later
invariant-loop-later l = followed_by (block l.now) (blocks l.later.items) ≡ followed_by (block l.fn.now) (blocks l.fn.later.items)

abbrev pub decreases-loop-later : goal.decreases-loop-later
decreases-loop-later l = length l.later.items
