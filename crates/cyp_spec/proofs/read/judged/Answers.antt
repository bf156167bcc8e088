use Rattle.cyp_spec.proofs.Judged.{no_fault}
use Rattle.cyp_spec.proofs.read.judged.Goals as goal
use Rattle.cyp_formed.specs.LimitFaults.{limit_faults}
use Rattle.cyp_names.specs.NameFaults.{name_faults}

pub limit_fault-requires-clause-names : goal.limit_fault-requires-clause-names
limit_fault-requires-clause-names c = no_fault (name_faults c.args.tree.now) c.in_ok-fault.field-0 c.in_default.not-Some c.in_ok-fault.ensures

pub spec_of-requires-clause-names : goal.spec_of-requires-clause-names
spec_of-requires-clause-names c = no_fault (name_faults c.args.tree.now) c.in_ok-fault.field-0 c.in_default.not-Some c.in_ok-fault.ensures

pub spec_of-requires-clause-limits : goal.spec_of-requires-clause-limits
spec_of-requires-clause-limits c = no_fault (limit_faults c.args.tree.now) c.in_ok-fault-2.field-0 c.in_default-2.not-Some c.in_ok-fault-2.ensures
