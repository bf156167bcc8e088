use Rattle.cyp_machine.proofs.Inputs.{one_input_reading, some_input_reading}
use Rattle.cyp_machine.proofs.run_input.an_input_has_one_reading.Goals as goal

pub returns : goal.returns
returns c = record { some = some_input_reading; alone = one_input_reading }
