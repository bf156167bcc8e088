use Rattle.cyp_machine.proofs.Going.{run_goes_on}
use Rattle.cyp_machine.proofs.laws.run_goes_on_or_halts.Goals as goal

pub returns : goal.returns
returns c = run_goes_on
