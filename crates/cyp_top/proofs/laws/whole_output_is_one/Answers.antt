use Rattle.cyp_top.proofs.WholeOutputs.{one_whole_output, some_whole_output}
use Rattle.cyp_top.proofs.laws.whole_output_is_one.Goals as goal

pub returns-clause-some : goal.returns-clause-some
returns-clause-some c = some_whole_output

pub returns-clause-alone : goal.returns-clause-alone
returns-clause-alone c = one_whole_output
