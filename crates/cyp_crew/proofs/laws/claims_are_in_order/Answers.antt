use Rattle.cyp_crew.proofs.OrderlyClaims.{orderly_law}
use Rattle.cyp_crew.proofs.laws.claims_are_in_order.Goals as goal

pub returns : goal.returns
returns g c = orderly_law
