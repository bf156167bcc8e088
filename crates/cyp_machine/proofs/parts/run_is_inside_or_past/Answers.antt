use Rattle.cyp_machine.proofs.InnerRuns.{followed, inner_run}
use Rattle.cyp_machine.proofs.parts.run_is_inside_or_past.Goals as goal

pub returns-clause-bodies : goal.returns-clause-bodies
returns-clause-bodies c = inner_run

pub returns-clause-followed : goal.returns-clause-followed
returns-clause-followed c = followed
