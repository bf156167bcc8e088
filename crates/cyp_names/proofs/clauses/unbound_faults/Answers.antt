use Rattle.cyp_names.proofs.LesserFaults.{least_more}
use Rattle.cyp_names.specs.NameFaults.{unbound_fault}
use Rattle.cyp_names.proofs.clauses.unbound_faults.Goals as goal

pub loop-used-preserved : goal.loop-used-preserved
loop-used-preserved c =
    least_more (unbound_fault c.args.params.now) c.args.uses.now c.loop-used.used-index c.used-item.result c.loop-used.found c.unbound_fault.result c.lesser-found.result _ c.loop-used-test.true c.used-item.is
    c.unbound_fault.ensures c.lesser-found.ensures c.loop-used.invariant
