use Rattle.cyp_goal.proofs.RenameNormal.{logical_renaming_law}
use Rattle.cyp_goal.proofs.laws.normal_under_new_logical_names.Goals as goal

pub returns : goal.returns
returns c = logical_renaming_law
