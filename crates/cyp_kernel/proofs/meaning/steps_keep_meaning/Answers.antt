use Rattle.cyp_kernel.proofs.NormalMeaning.{solving_keeps}
use Rattle.cyp_kernel.proofs.TidyMeaning.{pruning_keeps, tidying_keeps}
use Rattle.cyp_kernel.proofs.meaning.steps_keep_meaning.Goals as goal

pub returns-clause-solving : goal.returns-clause-solving
returns-clause-solving c = solving_keeps

pub returns-clause-tidying : goal.returns-clause-tidying
returns-clause-tidying c = tidying_keeps

pub returns-clause-pruning : goal.returns-clause-pruning
returns-clause-pruning c = pruning_keeps
