use Rattle.cyp_kernel.proofs.NumberedVars.{normal_exist_stand}
use Rattle.cyp_kernel.proofs.steady.normal_existentials_stand.Goals as goal

pub returns : goal.returns
returns c = normal_exist_stand
