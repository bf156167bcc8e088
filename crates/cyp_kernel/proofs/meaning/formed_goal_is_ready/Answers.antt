use Rattle.cyp_kernel.proofs.NormalMeaning.{formed_is_ready}
use Rattle.cyp_kernel.proofs.meaning.formed_goal_is_ready.Goals as goal

pub returns : goal.returns
returns c = formed_is_ready
