use Rattle.cyp_search.proofs.NumberedStages.{stages_numbered}
use Rattle.cyp_search.proofs.laws.stages_are_numbered.Goals as goal

pub returns : goal.returns
returns g c = stages_numbered
