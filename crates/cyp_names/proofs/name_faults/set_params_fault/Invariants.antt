use Rattle.std.proofs.Common.{◌≡◌, drop, flat_map}
use Rattle.cyp_names.specs.LeastFaults.{lesser_of}
use Rattle.cyp_names.specs.NameFaults.{set_param_fault}
use Rattle.cyp_names.specs.FaultOrder.{least_fault}
use Rattle.cyp_names.proofs.name_faults.set_params_fault.Given as goal

abbrev pub invariant-loop-param : goal.invariant-loop-param
invariant-loop-param l = lesser_of l.found (least_fault (flat_map set_param_fault (drop l.param-index l.params))) ≡ least_fault (flat_map set_param_fault l.params)
