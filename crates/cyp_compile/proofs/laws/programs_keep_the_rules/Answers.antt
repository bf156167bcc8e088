use Rattle.cyp_compile.proofs.Keeping.Whole.{programs_keep_rules}
use Rattle.cyp_compile.proofs.laws.programs_keep_the_rules.Goals as goal

pub returns : goal.returns
returns g = programs_keep_rules
