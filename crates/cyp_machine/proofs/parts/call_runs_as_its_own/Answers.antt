use Rattle.cyp_machine.proofs.Calls.{call}
use Rattle.cyp_machine.proofs.parts.call_runs_as_its_own.Goals as goal

pub returns : goal.returns
returns c = call
