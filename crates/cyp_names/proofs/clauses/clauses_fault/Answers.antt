use Rattle.cyp_names.proofs.LesserFaults.{least_more}
use Rattle.cyp_names.specs.NameFaults.{clause_faults}
use Rattle.cyp_names.proofs.clauses.clauses_fault.Goals as goal

pub loop-clause-preserved : goal.loop-clause-preserved
loop-clause-preserved c =
    least_more (clause_faults c.args.preds.now c.args.params.now) c.args.clauses.now c.loop-clause.clause-index c.clause-item.result c.loop-clause.found c.in_ok-fault.fault c.lesser-found.result _ c.loop-clause-test.true c.clause-item.is
    c.in_ok-fault.ensures c.lesser-found.ensures c.loop-clause.invariant
