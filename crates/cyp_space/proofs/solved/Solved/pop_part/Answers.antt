use Rattle.cyp_space.proofs.Sums.{count_out, count_roll, popped}
use Rattle.cyp_space.proofs.solved.Solved.pop_part.Goals as goal

pub returns : goal.returns
returns g c = popped _ _ _ _ _ (count_out c.args.self.now) (count_roll _) c.pop.ensures
