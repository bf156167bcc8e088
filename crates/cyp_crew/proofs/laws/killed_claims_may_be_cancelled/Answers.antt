use Rattle.cyp_crew.proofs.CancelKilled.{killed_in_order, killed_law}
use Rattle.cyp_crew.proofs.laws.killed_claims_may_be_cancelled.Goals as goal

pub returns : goal.returns
returns g c = λ t vs c d e f. (killed_in_order t vs c d e, killed_law t vs c d e f)
