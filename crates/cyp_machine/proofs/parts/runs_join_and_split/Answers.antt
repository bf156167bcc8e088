use Rattle.cyp_machine.proofs.Joined.{join, split}
use Rattle.cyp_machine.proofs.parts.runs_join_and_split.Goals as goal

pub returns-clause-join : goal.returns-clause-join
returns-clause-join c = join

pub returns-clause-split : goal.returns-clause-split
returns-clause-split c = split
