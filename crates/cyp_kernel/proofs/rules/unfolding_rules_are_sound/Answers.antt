use Rattle.cyp_kernel.proofs.RuleClose.{by_close}
use Rattle.cyp_kernel.proofs.RuleOpen.{by_open}
use Rattle.cyp_kernel.proofs.rules.unfolding_rules_are_sound.Goals as goal

pub returns-clause-open : goal.returns-clause-open
returns-clause-open c = by_open

pub returns-clause-close : goal.returns-clause-close
returns-clause-close c = by_close
