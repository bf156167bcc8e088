use Rattle.cyp_kernel.proofs.UnsortedMeaning.{sorts_are_needed}
use Rattle.cyp_kernel.proofs.meaning.sorts_are_needed.Goals as goal

pub returns : goal.returns
returns c = sorts_are_needed
