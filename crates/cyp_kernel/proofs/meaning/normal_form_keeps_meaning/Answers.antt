use Rattle.cyp_kernel.proofs.NormalMeaning.{normal_keeps}
use Rattle.cyp_kernel.proofs.meaning.normal_form_keeps_meaning.Goals as goal

pub returns : goal.returns
returns c = normal_keeps
