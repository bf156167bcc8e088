use Rattle.cyp_kernel.proofs.RuleCall.{by_call}
use Rattle.cyp_kernel.proofs.rules.call_rule_is_sound.Goals as goal

pub returns : goal.returns
returns g c = by_call c
