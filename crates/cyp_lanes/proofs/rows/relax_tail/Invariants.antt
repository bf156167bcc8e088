use Rattle.std.proofs.Common.{◌≡◌, ◌+ℤ◌}
use Rattle.std.specs.Int.{int_min}
use Rattle.cyp_lanes.proofs.Parts.{joined_to}
use Rattle.cyp_lanes.proofs.rows.relax_tail.Given as goal

abbrev pub invariant-loop-i : goal.invariant-loop-i
invariant-loop-i l = l.dst ≡ joined_to (λ d s. int_min d (s +ℤ l.add)) l.i l.fn.dst l.src
