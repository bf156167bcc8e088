use Rattle.cyp_kernel.proofs.NormalBody.{normal_bodies}
use Rattle.cyp_kernel.proofs.meaning.normal_form_keeps_bodies.Goals as goal

pub returns : goal.returns
returns c = normal_bodies
