use Rattle.cyp_kernel.proofs.NormalSteady.{formed_is_steady, normal_is_steady, steady_is_ready}
use Rattle.cyp_kernel.proofs.meaning.normal_form_is_steady.Goals as goal

pub returns-clause-formed : goal.returns-clause-formed
returns-clause-formed c = formed_is_steady

pub returns-clause-before : goal.returns-clause-before
returns-clause-before c = steady_is_ready

pub returns-clause-after : goal.returns-clause-after
returns-clause-after c = normal_is_steady
