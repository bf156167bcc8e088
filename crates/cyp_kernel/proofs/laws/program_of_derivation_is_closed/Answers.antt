use Rattle.cyp_kernel.proofs.ClosedPrograms.{program_closed}
use Rattle.cyp_kernel.proofs.laws.program_of_derivation_is_closed.Goals as goal

pub returns : goal.returns
returns c = program_closed
