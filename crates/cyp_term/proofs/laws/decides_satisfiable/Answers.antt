use Rattle.cyp_term.proofs.Entailment.{satisfiable_law}
use Rattle.cyp_term.proofs.laws.decides_satisfiable.Goals as goal

pub returns : goal.returns
returns c = satisfiable_law
