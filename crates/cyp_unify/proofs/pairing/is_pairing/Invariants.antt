use Rattle.std.proofs.Common.{◌≡◌, drop, is_some}
use Rattle.cyp_unify.specs.Matches.{pair_positions}
use Rattle.cyp_unify.proofs.pairing.is_pairing.Given as goal

abbrev pub invariant-loop-k : goal.invariant-loop-k
invariant-loop-k l = is_some (pair_positions l.present (drop l.k l.wanted) (drop l.k l.places)) ≡ is_some (pair_positions l.present l.wanted l.places)
