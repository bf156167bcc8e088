use Rattle.std.proofs.Common.{◌≡◌}
use Rattle.cyp_diff.proofs.Empty.{empty_rows}
use Rattle.cyp_diff.proofs.bounds.Bounds.new.Given as goal

abbrev pub invariant-loop-i : goal.invariant-loop-i
invariant-loop-i l = l.rows.items ≡ empty_rows l.i
