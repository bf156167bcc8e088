use Rattle.std.proofs.Common.{◌+◌, ◌*◌, length}
use Rattle.cyp_diff.proofs.gaps.+separate.Given as goal

abbrev pub decreases-side : goal.decreases-side
decreases-side l = 4 * length l.gaps + 2

abbrev pub decreases-first_side : goal.decreases-first_side
decreases-first_side l = 4 * length l.gaps.now + 3

abbrev pub decreases-split : goal.decreases-split
decreases-split l = 4 * length l.gaps

abbrev pub decreases-separate : goal.decreases-separate
decreases-separate l = 4 * length l.gaps + 1
