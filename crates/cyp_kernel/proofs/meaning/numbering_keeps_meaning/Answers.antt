use Rattle.cyp_kernel.proofs.NumberMeaning.{numbering_keeps}
use Rattle.cyp_kernel.proofs.meaning.numbering_keeps_meaning.Goals as goal

pub returns : goal.returns
returns c = numbering_keeps
