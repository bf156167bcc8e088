use Rattle.std.proofs.Common.{◌≡◌}
use Rattle.cyp_diff.specs.Relaxing.{closer}
use Rattle.cyp_diff.proofs.Mapping.{mapped_to}
use Rattle.cyp_diff.proofs.bounds.close.Given as goal

abbrev pub invariant-loop-row : goal.invariant-loop-row
invariant-loop-row l = l.rows ≡ mapped_to (closer l.i l.from l.c) l.row-index l.fn.rows
