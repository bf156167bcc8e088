use Rattle.cyp_kernel.proofs.Dependence.{side_depends_on_vars}
use Rattle.cyp_kernel.proofs.meaning.side_depends_on_its_variables.Goals as goal

pub returns : goal.returns
returns c = side_depends_on_vars
