use Rattle.std.proofs.Common.{◌≡◌, drop}
use Rattle.cyp_names.specs.PredFaults.{overlaps}
use Rattle.cyp_spec.proofs.guards.overlaps.Given as goal

abbrev pub invariant-loop-earlier : goal.invariant-loop-earlier
invariant-loop-earlier l = overlaps (drop l.earlier-index l.seen) l.guard ≡ overlaps l.seen l.guard
