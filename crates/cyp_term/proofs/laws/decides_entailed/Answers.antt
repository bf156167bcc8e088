use Rattle.cyp_term.proofs.Entailment.{entailed_law}
use Rattle.cyp_term.proofs.laws.decides_entailed.Goals as goal

pub returns : goal.returns
returns c = entailed_law
