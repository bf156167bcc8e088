use Rattle.cyp_formed.proofs.ReadTrees.{read_is_regular, read_is_sorted}
use Rattle.cyp_formed.proofs.laws.goal_that_is_read_is_sorted.Goals as goal

pub returns : goal.returns
returns g = record { sorted = read_is_sorted; regular = read_is_regular }
