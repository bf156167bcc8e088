use Rattle.std.proofs.Common.{arith}
use Rattle.std.proofs.lemmas.Grind.{common_steps}
use Rattle.cyp_machine.proofs.Rests.{params-push}
use Rattle.cyp_machine.proofs.frame.parameters.Goals as goal

pub loop-i-preserved : goal.loop-i-preserved
loop-i-preserved c = grind (arith, common_steps, params-push)
