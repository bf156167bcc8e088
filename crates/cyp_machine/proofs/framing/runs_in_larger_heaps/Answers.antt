use Rattle.cyp_machine.proofs.FramedRuns.{framing}
use Rattle.cyp_machine.proofs.FramedSteps.{step_framing}
use Rattle.cyp_machine.proofs.framing.runs_in_larger_heaps.Goals as goal

pub returns-clause-step : goal.returns-clause-step
returns-clause-step c = step_framing

pub returns-clause-run : goal.returns-clause-run
returns-clause-run c = framing
