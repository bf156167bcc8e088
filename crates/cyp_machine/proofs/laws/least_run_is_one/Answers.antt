use Rattle.cyp_machine.proofs.LeastRuns.{halted_is_longest, least_run_is_a_run, least_runs_meet}
use Rattle.cyp_machine.proofs.laws.least_run_is_one.Goals as goal

pub returns-clause-one : goal.returns-clause-one
returns-clause-one c = least_runs_meet

pub returns-clause-longest : goal.returns-clause-longest
returns-clause-longest c = halted_is_longest

pub returns-clause-allowed : goal.returns-clause-allowed
returns-clause-allowed c = least_run_is_a_run
