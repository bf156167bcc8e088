use Rattle.cyp_term.proofs.Substitution.{apply_law}
use Rattle.cyp_term.proofs.laws.applied_truth.Goals as goal

pub returns : goal.returns
returns c = apply_law
