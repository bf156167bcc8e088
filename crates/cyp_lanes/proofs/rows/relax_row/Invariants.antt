use Rattle.std.proofs.Common.{◌≡◌, ◌+◌, ◌-◌, ◌≤◌, ◌+ℤ◌, length}
use Rattle.std.specs.Int.{int_min}
use Rattle.cyp_lanes.proofs.Parts.{joined_to}
use Rattle.cyp_lanes.proofs.rows.relax_row.Given as goal

abbrev pub invariant-loop-at : goal.invariant-loop-at
invariant-loop-at l = (l.at ≤ length l.fn.dst) × (l.dst ≡ joined_to (λ d s. int_min d (s +ℤ l.add)) l.at l.fn.dst l.src)

abbrev pub decreases-loop-at : goal.decreases-loop-at
decreases-loop-at l = length l.initial.dst + 1 - l.at
