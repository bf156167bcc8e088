use Rattle.cyp_term.proofs.Integers.{Decides-integers}
use Rattle.cyp_term.proofs.laws.decides_integers.Goals as goal

pub returns : goal.returns
returns c = Decides-integers
