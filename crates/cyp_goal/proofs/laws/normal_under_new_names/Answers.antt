use Rattle.cyp_goal.proofs.RenameNormal.{renaming_law}
use Rattle.cyp_goal.proofs.laws.normal_under_new_names.Goals as goal

pub returns : goal.returns
returns c = renaming_law
