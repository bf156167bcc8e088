use Rattle.std.proofs.Common.{arith}
use Rattle.cyp_space.proofs.Sums.{count_out, empty_parts}
use Rattle.cyp_space.proofs.solved.Solved.let_go.Goals as goal

pub destroy_empty-requires : goal.destroy_empty-requires
destroy_empty-requires g c = let whole = count_out c.args.self in empty_parts _ (omega arith)
