use Rattle.cyp_machine.proofs.ClosedPrograms.{entry_is_there, input_is_closed, spelled_is_closed}
use Rattle.cyp_machine.proofs.laws.program_that_is_read_is_closed.Goals as goal

pub returns-clause-spelled : goal.returns-clause-spelled
returns-clause-spelled c = spelled_is_closed

pub returns-clause-input : goal.returns-clause-input
returns-clause-input c = input_is_closed

pub returns-clause-entry : goal.returns-clause-entry
returns-clause-entry c = entry_is_there
