use Rattle.std.proofs.Common.{◌≡◌, ◌+◌, ◌*◌, ◌≤◌, drop}
use Rattle.cyp_space.specs.Alts.{premises_in}
use Rattle.cyp_space.proofs.moves.count_of_premises.Given as goal

abbrev pub invariant-loop-alt : goal.invariant-loop-alt
invariant-loop-alt g l = record { rest : l.count + premises_in (drop l.alt-index l.alts) ≡ premises_in l.alts; bound : l.count ≤ 255 * l.alt-index }
