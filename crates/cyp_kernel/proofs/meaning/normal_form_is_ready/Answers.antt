use Rattle.cyp_kernel.proofs.NormalReady.{normal_is_ready, old_are_program}
use Rattle.cyp_kernel.proofs.meaning.normal_form_is_ready.Goals as goal

pub returns-clause-ready : goal.returns-clause-ready
returns-clause-ready c = normal_is_ready

pub returns-clause-old : goal.returns-clause-old
returns-clause-old c = old_are_program
