use Rattle.std.proofs.Common.{◌≡◌, ◌+◌}
use Rattle.cyp_space.specs.Counts.{solved_count}
use Rattle.cyp_space.proofs.solved.Solved.drop.Given as goal

abbrev pub invariant-loop-hand : goal.invariant-loop-hand
invariant-loop-hand g l = solved_count l.root + solved_count l.hand ≡ solved_count l.initial.root + solved_count l.initial.hand

abbrev pub decreases-loop-hand : goal.decreases-loop-hand
decreases-loop-hand g l = solved_count l.hand

abbrev pub decreases-loop-part : goal.decreases-loop-part
decreases-loop-part g l = solved_count l.root
