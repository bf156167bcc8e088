use Rattle.cyp_names.proofs.LesserFaults.{least_more}
use Rattle.cyp_names.specs.NameFaults.{set_param_fault}
use Rattle.cyp_names.proofs.name_faults.set_params_fault.Goals as goal

pub loop-param-preserved : goal.loop-param-preserved
loop-param-preserved c =
    least_more set_param_fault c.args.params.now c.loop-param.param-index c.param-item.result c.loop-param.found c.set_param_fault.result c.lesser-found.result _ c.loop-param-test.true c.param-item.is
    c.set_param_fault.ensures c.lesser-found.ensures c.loop-param.invariant
